-- Commands that run alone, one after another.
use Rattle.std.proofs.Common.{◌≡◌, inl, inr, ℕ, Bool, true, List, [], ◌∷◌, ◌++◌, refl, sym, subst, ap, ◌∙◌}
use mathlib.Core.List.{append-nil}
use Rattle.wp_text.specs.declared.script.Command.{Command}
use Rattle.wp_text.specs.declared.reply.Reply.{Reply}
use Rattle.wp_core.specs.Lists.{IsIn}
use Rattle.wp_core.specs.Sound.Actors.{StartsWith}
use Rattle.wp_shared.proofs.Onward.{starts_on}
use Rattle.wp_replies.specs.Asked.{FaultAsks}
use Rattle.wp_replies.specs.Client.{Client}
use Rattle.wp_replies.specs.Current.{RunsAlone}
use Rattle.wp_replies.specs.Due.{Store, IsReply, logged_entries, store_after, client_after}

pub runs_more : (place : ℕ) (places : List ℕ) (old : Store) (was : Client) (done : List Command) (answers : List Reply) (s : Store) (client : Client) (c : Command) (r : Reply) → RunsAlone places old was done answers s client → IsReply s client c r
    → RunsAlone (places ++ place ∷ []) old was (done ++ c ∷ []) (answers ++ r ∷ []) (store_after place s client c r) (client_after s.history client c r)
runs_more place [] old was [] [] s client c r (same, is) replied = (
  subst (λ (x : Store × Client). IsReply x.0 x.1 c r) (λ i. (same i, is i)) replied,
  (ap (λ (x : Store × Client). store_after place x.0 x.1 c r) (λ i. (same i, is i)), ap (λ (x : Store × Client). client_after x.0.history x.1 c r) (λ i. (same i, is i))),
)
runs_more place (p ∷ places) old was (d ∷ done) (a ∷ answers) s client c r (first, rest) replied = (first, runs_more place places (store_after p old was d a) (client_after old.history was d a) done answers s client c r rest replied)
runs_more place _ old was _ _ s client c r ran replied = absurd ran

-- the history has grown
pub runs_grow : (places : List ℕ) (old : Store) (was : Client) (done : List Command) (answers : List Reply) (s : Store) (client : Client) → RunsAlone places old was done answers s client → StartsWith s.history old.history
runs_grow [] old was [] [] s client (same, is) = ([], ap (λ (x : Store). x.history) same ∙ sym (append-nil old.history))
runs_grow (p ∷ places) old was (d ∷ done) (a ∷ answers) s client (first, rest) =
    starts_on old.history (store_after p old was d a).history s.history (logged_entries old was d a, refl) (runs_grow places (store_after p old was d a) (client_after old.history was d a) done answers s client rest)
runs_grow _ old was _ _ s client ran = absurd ran

module _ (is_failed : Command → Reply → Bool) (Asks : Store → Client → Command → Type 0) where
  -- what was asked for is asked for still as more commands follow
  pub asks_front : (places others : List ℕ) (old : Store) (was : Client) (done commands : List Command) (answers more : List Reply) → FaultAsks is_failed Asks places old was done answers → FaultAsks is_failed Asks (places ++ others) old was (done ++ commands) (answers ++ more)
  asks_front (p ∷ places) others old was (d ∷ done) commands (a ∷ answers) more (inl own) = inl own
  asks_front (p ∷ places) others old was (d ∷ done) commands (a ∷ answers) more (inr later) = inr (asks_front places others (store_after p old was d a) (client_after old.history was d a) done commands answers more later)
  asks_front _ others old was _ commands _ more none = absurd none

  pub asks_last : (place : ℕ) (places : List ℕ) (old : Store) (was : Client) (done : List Command) (answers : List Reply) (s : Store) (client : Client) (c : Command) (r : Reply) → RunsAlone places old was done answers s client → is_failed c r ≡ true → Asks s client c
      → FaultAsks is_failed Asks (places ++ place ∷ []) old was (done ++ c ∷ []) (answers ++ r ∷ [])
  asks_last place [] old was [] [] s client c r (same, is) failed asks = inl (failed, subst (λ (x : Store × Client). Asks x.0 x.1 c) (λ i. (same i, is i)) asks)
  asks_last place (p ∷ places) old was (d ∷ done) (a ∷ answers) s client c r (first, rest) failed asks = inr (asks_last place places (store_after p old was d a) (client_after old.history was d a) done answers s client c r rest failed asks)
  asks_last place _ old was _ _ s client c r ran failed asks = absurd ran

-- where nothing is asked in particular, a reply that tells a fault does
module _ (is_failed : Reply → Bool) (Asks : Store → Client → Command → Type 0) where
  pub asks_any : ((s : Store) (client : Client) (c : Command) → Asks s client c) → (places : List ℕ) (old : Store) (was : Client) (done : List Command) (answers : List Reply) (s : Store) (client : Client) → RunsAlone places old was done answers s client → (x : Reply) × IsIn x answers × (is_failed x ≡ true)
      → FaultAsks (λ command answer. is_failed answer) Asks places old was done answers
  asks_any all [] old was [] [] s client ran (x, there, failed) = absurd there
  asks_any all (p ∷ places) old was (d ∷ done) (a ∷ answers) s client (first, rest) (x, inl same, failed) = inl (subst (λ (y : Reply). is_failed y ≡ true) (sym same) failed, all old was d)
  asks_any all (p ∷ places) old was (d ∷ done) (a ∷ answers) s client (first, rest) (x, inr later, failed) = inr (asks_any all places (store_after p old was d a) (client_after old.history was d a) done answers s client rest (x, later, failed))
  asks_any all _ old was _ _ s client ran (x, there, failed) = absurd ran
