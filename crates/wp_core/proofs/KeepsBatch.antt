-- Setting the batch of a transaction keeps every part of a sound world.
use Rattle.std.proofs.Common.{◌≡◌, set, ⊎_elim, ℕ, true, false, List, length, refl, sym, subst, ap, ◌∙◌, Some, None}
use mathlib.Core.Option.{some}
use lib.ListN.{get_elem?}
use Rattle.std.specs.FinSet as words
use Rattle.std.specs.FinMap as finite
use Rattle.std.specs.FinMap.{get-empty}
use Rattle.wp_model.specs.declared.change.Change.{Change}
use Rattle.wp_model.specs.Batch.{key_cmp}
use Rattle.wp_model.specs.declared.holder.Holder.TheVariants.{Client}
use Rattle.wp_core.specs.Views.{Fact, undecided_at, prior_values, unprepared, direct_free, unchanged}
use Rattle.wp_core.specs.World.{Transaction, Actor, Participant, World}
use Rattle.wp_core.specs.Steps.{set_batch}
use Rattle.wp_core.specs.Effects.{done}
use Rattle.wp_core.specs.Needs.{Needs}
use Rattle.wp_core.specs.Notes.{forgets}
use Rattle.wp_core.specs.Sound.Locks.{owner_of}
use Rattle.wp_core.specs.Sound.Views.{Owns}
use Rattle.wp_core.specs.IsSound.{IsSound}
use Rattle.wp_model.proofs.Keyed.{is_word_same, at_inserted, else_inserted}
use Rattle.wp_core.proofs.OwnersStay.{IsSameOwner, locked_still}
use Rattle.wp_core.proofs.AllParts.{SoIn, all_parts, tables_of, views_still, pasts_still, readers_still, turns_still, notes_stay, idle_set, led_still}

-- what is noted stays so where the participant has the same of names and keys
module _ (w : World) (a p : Participant) (is : IsSameOwner (owner_of a) (owner_of p)) where
  owns_still : (name : List ℕ) → Owns a name → Owns p name
  owns_still name k = let h = is.has name k.0 k.1 in (h.0, h.1)

  pub so_same : (fact : Fact) → SoIn w a fact → SoIn w p fact
  so_same (undecided_at name q) k = (owns_still name k.0, k.1, k.2 ∙ ap (λ (c : List ℕ). Some (Some c)) (sym is.client), k.3)
  so_same (prior_values name q batch) k = (owns_still name k.0, k.1, k.2)
  so_same (unprepared name) k = (owns_still name k.0, k.1, λ x key h held. let y = is.had name x h in k.2 y.0 key y.1 (subst (λ (z : words.FinSet key_cmp). words.contains z key ≡ true) (sym y.2) held))
  so_same (direct_free key) k = (is.direct ∙ k.0, k.1 ∙ ap (λ (c : List ℕ). Some (Client c)) (sym is.client), k.2)
  so_same (unchanged name key n) k = let x = is.has name k.0.0 k.0.1 in ((x.0, x.1, subst (λ (z : words.FinSet key_cmp). words.contains z key ≡ true) (sym x.2) k.0.2), k.1, k.2)
  so_same fact k = k

module _ (a : Participant) (name : List ℕ) (t : Transaction) (batch : List Change) (has : finite.get a.transactions name ≡ Some t) where
  abbrev with_batch : Transaction
  with_batch = record t { batch = batch }

  abbrev after : Participant
  after = record a { transactions = finite.insert a.transactions name with_batch }

  same_owner_after : IsSameOwner (owner_of a) (owner_of after)
  same_owner_after = record {
    client = refl;
    had = λ n x h. ⊎_elim
        (λ (e : n ≡ name). let q : Some with_batch ≡ Some x = sym (at_inserted a.transactions name with_batch n e) ∙ h in let same : with_batch ≡ x = cc in (t, ap (finite.get a.transactions) e ∙ has, ap (λ (z : Transaction). z.locked) same))
        (λ ne. (x, sym (else_inserted a.transactions name with_batch n ne) ∙ h, refl)) (is_word_same n name);
    has = λ n y h. ⊎_elim
        (λ (e : n ≡ name). let q : Some t ≡ Some y = sym has ∙ ap (finite.get a.transactions) (sym e) ∙ h in let same : t ≡ y = cc in (with_batch, at_inserted a.transactions name with_batch n e, ap (λ (z : Transaction). z.locked) same))
        (λ ne. (y, else_inserted a.transactions name with_batch n ne ∙ h, refl)) (is_word_same n name);
    direct = refl;
    past = λ x k. k;
  }

-- who has a transaction is live
owner_lives : (w : World) (by : ℕ) (a : Actor) (name : List ℕ) (t : Transaction) → get_elem? w.actors by ≡ some a → finite.get a.participant.transactions name ≡ Some t → IsSound w → a.live ≡ false → ⊥
owner_lives w by a name t at has s dead =
    let i = s.idle by a at dead in
    let q : None ≡ Some t = sym (get-empty key_cmp name) ∙ ap (λ (z : Participant). finite.get z.transactions name) (sym i.participant) ∙ has in absurd cc

pub sets_batch : (w : World) (by : ℕ) (a : Actor) (name : List ℕ) (t : Transaction) (batch : List Change) → get_elem? w.actors by ≡ some a → Needs w by a (set_batch name t batch) → IsSound w
    → IsSound (done w by (forgets w.writes.history (length w.cache) (set_batch name t batch) a) (set_batch name t batch))
sets_batch w by a name t batch at needs s =
    let has = needs.0 in
    let live = owner_lives w by a name t at has s in
    let is = same_owner_after a.participant name t batch has in
    let b : Actor = record (forgets w.writes.history (length w.cache) (set_batch name t batch) a) { participant = after a.participant name t batch has } in
    all_parts w (set w.actors by b) (tables_of w s) (views_still w by a b at refl s) (locked_still w.actors by a b at refl is w.opened w.writes.history w.locks s.locks) (pasts_still w by a b at refl s) (turns_still w by a b at refl s)
    (readers_still w by a b at refl s)
    (notes_stay w by a b at (set_batch name t batch) w.holders (SoIn w) refl (λ fact left m. record { guarded = m.guarded; is_so = so_same w a.participant (after a.participant name t batch has) is fact m.is_so }) (λ j x fact ne there m. m) s)
    (led_still w by a b at refl s) (idle_set w by a b at (λ dead. absurd (live dead)) s)
