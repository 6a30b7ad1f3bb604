-- What a table leaves that is closed with its first seat, once that has taken in all others.
use Rattle.std.proofs.Common.{◌≡◌, ◌≢◌, ℕ, zero, suc, ◌<◌, Bool, true, false, List, [], ◌∷◌, length, get_or, set, refl, sym, subst, ap, ◌∙◌, Option, Some, None, arith}
use mathlib.Core.Option.{some, some-injective, some-ne-none}
use mathlib.Core.Logic.{dite}
use native.Mathlib.Decide.{ℕ_discrete}
use lib.ListN.{get_elem?}
use Rattle.atomic_table.specs.Table.{Final, Seen}
use Rattle.wp_core.specs.Lists.{EachAt, IsIn, one_if}
use Rattle.wp_core.specs.Turns.{Turn, write_turn, prepared_turn, snapshots_turn, store_turn, locks_turn, tables_turn, turn_holder}
use Rattle.wp_core.specs.States.{Content}
use Rattle.wp_core.specs.World.{Actor, World, content_of, new_actor}
use Rattle.wp_core.specs.Changes.{turn_index}
use Rattle.wp_core.specs.Sound.Actors.{Role, role_of, held_of}
use Rattle.wp_core.specs.IsSound.{IsSound}
use Rattle.wp_core.proofs.ActorsMove.{total_set}
use Rattle.wp_core.proofs.Frames.{at_map, set_else}
use Rattle.wp_core.proofs.KeepsRemembered.{from_map}
use Rattle.wp_core.proofs.Persons.{total_map}
use Rattle.wp_core.proofs.Registered.{total_at}
use Rattle.wp_rule.specs.declared.part.Parts.{Parts}
use Rattle.wp_rule.specs.Ends.{part_of}
use Rattle.wp_rule.specs.Words.{SharedWords, place_of}
use Rattle.wp_rule.specs.Shows.{IsPart, Shows, DidNothing, Leaves}
use Rattle.wp_rule.proofs.Knows.{at_sound}
use Rattle.wp_rule.proofs.OnlyFirst.{only_first}
use Rattle.wp_rule.proofs.KeepsRule.{at_world, is_home}

-- ---- slots that were emptied

set_false : (f : List Bool) (i k : ℕ) → (k ≢ i → get_or f k false ≡ false) → get_or (set f i false) k false ≡ false
set_false [] i k h = refl
set_false (b ∷ f) zero zero h = refl
set_false (b ∷ f) zero (suc k) h = h (λ e. omega arith)
set_false (b ∷ f) (suc i) zero h = h (λ e. omega arith)
set_false (b ∷ f) (suc i) (suc k) h = set_false f i k (λ ne. h (λ e. ne (omega arith)))

pub six_empty : (f : List Bool) (k : ℕ) → k < 6 → get_or (set (set (set (set (set (set f 0 false) 1 false) 2 false) 3 false) 4 false) 5 false) k false ≡ false
six_empty f k low =
    let f1 : List Bool = set f 0 false in let f2 : List Bool = set f1 1 false in let f3 : List Bool = set f2 2 false in let f4 : List Bool = set f3 3 false in let f5 : List Bool = set f4 4 false in
    set_false f5 5 k (λ n5. set_false f4 4 k (λ n4. set_false f3 3 k (λ n3. set_false f2 2 k (λ n2. set_false f1 1 k (λ n1. set_false f 0 k (λ n0. absurd (omega arith)))))))

pub six_there : {S : Type 0} (xs : List S) (parts : Parts S) → get_elem? xs 0 ≡ some parts.write → get_elem? xs 1 ≡ some parts.prepared → get_elem? xs 2 ≡ some parts.snapshots → get_elem? xs 3 ≡ some parts.store → get_elem? xs 4 ≡ some parts.locks → get_elem? xs 5 ≡ some parts.tables
    → (turn : Turn) → get_elem? xs (turn_index turn) ≡ some (part_of parts turn)
six_there xs parts a b c d e f write_turn = a
six_there xs parts a b c d e f prepared_turn = b
six_there xs parts a b c d e f snapshots_turn = c
six_there xs parts a b c d e f store_turn = d
six_there xs parts a b c d e f locks_turn = e
six_there xs parts a b c d e f tables_turn = f

-- ---- the other seats, and the turns

not_live : (b : Bool) → one_if b ≡ 0 → b ≡ false
not_live true e = absurd (omega arith)
not_live false e = refl

nothing_in : (c : Content) (held : List Content) → held ≡ [] → IsIn c held → ⊥
nothing_in c held e there = subst (IsIn c) e there

module _ (w : World) (s : IsSound w) (a : Actor) (at : get_elem? w.actors 0 ≡ some a) (all : a.made ≡ length a.joined) where
  abbrev alive : Actor → ℕ
  alive b = one_if b.live

  abbrev gone : Actor
  gone = new_actor false [] []

  others_idle : EachAt (λ j b. j ≢ 0 → b.live ≡ false) w.actors
  others_idle j b there ne =
      let k = s.led in
      let is : role_of a ≡ k.first = some-injective (role_of a) k.first (sym (at_map role_of w.actors 0 a at) ∙ k.there) in
      let lives : alive a ≡ 1 = ap (λ (r : Role). one_if r.live) is ∙ ap one_if k.live in
      let made : a.made ≡ k.first.made = ap (λ (r : Role). r.made) is in
      let joined : length a.joined ≡ length k.first.joined = ap (λ (r : Role). length r.joined) is in
      let m = total_map role_of (λ (r : Role). one_if r.live) w.actors in let count = k.counted in
      let t = total_set alive w.actors 0 a gone at in
      let l = total_at alive (set w.actors 0 gone) j b (set_else w.actors 0 j gone ne ∙ there) in
      not_live b.live (omega arith)

  module _ (idle : a.held ≡ []) where
    nobody_holds : (turn : Turn) (h : Option ℕ) → turn_holder w.holders turn ≡ h → h ≡ None
    nobody_holds turn None e = refl
    nobody_holds turn (Some j) e =
        let k = s.have turn j e in let b = from_map held_of w.actors j k.0 k.1 in
        dite (ℕ_discrete j 0)
        (λ (z : j ≡ 0). let same : b.0 ≡ a = some-injective b.0 a (sym b.1 ∙ (ap (get_elem? w.actors) z ∙ at)) in absurd (nothing_in k.2 k.0 (sym b.2 ∙ (ap held_of same ∙ idle)) k.3))
        (λ (ne : j ≢ 0). absurd (nothing_in k.2 k.0 (sym b.2 ∙ (s.idle j b.0 b.1 (others_idle j b.0 b.1 ne)).held) k.3))

-- the actors of a world whose first is this one
behind : (actors : List Actor) (a : Actor) → get_elem? actors 0 ≡ some a → (others : List Actor) × (actors ≡ a ∷ others)
behind [] a at = absurd (some-ne-none a (sym at))
behind (b ∷ others) a at = (others, ap (λ (c : Actor). c ∷ others) (some-injective b a at))

-- the others did nothing
pub nothing_done : (w : World) (s : IsSound w) (a : Actor) (at : get_elem? w.actors 0 ≡ some a) (all : a.made ≡ length a.joined) → EachAt (λ j b. j ≢ 0 → DidNothing b) w.actors
nothing_done w s a at all j b there ne =
    let quiet = others_idle w s a at all j b there ne in
    (quiet, s.idle j b there quiet, (s.led.others j (role_of b) (at_map role_of w.actors j b there) ne).1)

pub first_alone : (w : World) (s : IsSound w) (a : Actor) → get_elem? w.actors 0 ≡ some a → a.made ≡ length a.joined → ((turn : Turn) → turn_holder w.holders turn ≡ None) → IsSound (record w { actors = a ∷ [] })
first_alone w s a at all free =
    let o = behind w.actors a at in let k = s.led in
    let is : role_of a ≡ k.first = some-injective (role_of a) k.first (sym (at_map role_of w.actors 0 a at) ∙ k.there) in
    only_first w a o.0 o.1 (λ j b there. nothing_done w s a at all (suc j) b (ap (λ (actors : List Actor). get_elem? actors (suc j)) o.1 ∙ there) (λ e. omega (arith, e))) s free (ap (λ (r : Role). r.live) is ∙ k.live) all

module _ {S : Type 0} (content : S → Option Content) (tells : List S → S → Type 0) where
  pub leaves : (z z' : SharedWords S) (id : ℕ) (a : Actor) (words : List ℕ) (slots : List S) (parts : Turn → S) → z ≡ z' → id ≡ 0 → a.held ≡ [] → a.made ≡ length a.joined
      → Final (Seen (Shows content (tells z.first) z.first z.opened z.cells) id a) words slots → ((turn : Turn) → get_elem? slots (turn_index turn) ≡ some (parts turn)) → Leaves content (tells z'.first) z'.first (place_of content z' 0) a parts
  leaves z z' id a words slots parts is first idle all f there =
      let s = f.0 in let r = f.1.0 in let w = r.world in
      let k = at_world content (tells z.first) z.first z.opened z.cells s r 0 a (subst (λ (n : ℕ). get_elem? s.views n ≡ some a) first f.1.1) in let sound = at_sound (place_of content z 0) a w k in
      let free : (turn : Turn) → turn_holder w.holders turn ≡ None = λ turn. nobody_holds w sound a k.there all idle turn (turn_holder w.holders turn) refl in
      subst (λ (y : SharedWords S). Leaves content (tells y.first) y.first (place_of content y 0) a parts) is (record {
        world = w;
        before = k;
        first_edit = r.first_edit;
        free = free;
        others = nothing_done w sound a k.there all;
        alone = first_alone w sound a k.there all free;
        are_parts = λ turn. let h = is_home content (tells z.first) z.first z.opened z.cells (turn_holder w.holders turn) (content_of w turn) (get_elem? s.homes (turn_index turn)) (free turn) (r.rests turn) in
            let same : h.0 ≡ parts turn = some-injective h.0 (parts turn) (sym (f.4 (turn_index turn) h.0 h.1) ∙ there turn) in subst (λ (x : S). IsPart content (tells z.first) x (content_of w turn)) same h.2;
      })
