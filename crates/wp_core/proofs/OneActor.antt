-- An actor that is alone tells the states of its world.
use Rattle.std.proofs.Common.{◌≡◌, ◌≤◌, ◌==◌, ◌⊎◌, ⊎_elim, inl, inr, ℕ, zero, suc, ◌+◌, Bool, true, false, List, [], ◌∷◌, length, map, refl, sym, subst, ap, ◌∙◌, Option, Some, None, ◌≢◌, arith}
use mathlib.Core.Option.{some, some-injective, some-ne-none}
use lib.ListN.{get_elem?}
use Rattle.std.specs.FinMap as finite
use Rattle.std.proofs.lemmas.Bool.{eqb-true}
use Rattle.std.specs.Prelude.{IsSome}
use Rattle.wp_model.specs.Batch.{key_cmp}
use Rattle.wp_model.specs.Snapshots.{LiveSnapshot, IsLive}
use Rattle.wp_core.specs.Alone.{IsAlone, IsOnlyOf}
use Rattle.wp_core.specs.Lists.{IsIn, one_if, total}
use Rattle.wp_core.specs.Reading.{Registration}
use Rattle.wp_core.specs.World.{Participant, Actor, World, new_participant}
use Rattle.wp_core.specs.Sound.Actors.{participants_of, IsParticipantAt, total_participants, own_of, times, Role, role_of}
use Rattle.wp_core.specs.Sound.Locks.{owner_of}
use Rattle.wp_core.specs.Sound.Pasts.{past_of, closes_log, is_tables_fault, IsPast, last_installed, OtherInstalls}
use Rattle.wp_core.specs.Sound.Snapshots.{registered_of, count_of}
use Rattle.wp_core.specs.IsSound.{IsSound, participants}
use Rattle.wp_core.specs.Views.{Event, told}
use Rattle.wp_core.proofs.AllParticipants.{mine}
use Rattle.wp_core.proofs.Frames.{at_map}
use Rattle.wp_core.proofs.Registered.{total_at}

-- ---- who is there

-- one that did nothing
abbrev New : Participant → Type 0
New p = p ≡ new_participant p.client p.seen

-- an actor that did nothing and took in nobody
record Quiet (b : Actor) : Type 0 where
  pub new : New b.participant
  pub joined : b.joined ≡ []

not_one : (b : Bool) → one_if b ≡ 0 → b ≡ false
not_one true e = absurd cc
not_one false e = refl

-- of these none is live
none_live : (xs : List Actor) → total (λ r. one_if r.live) (map role_of xs) ≡ 0 → (j : ℕ) (b : Actor) → get_elem? xs j ≡ some b → b.live ≡ false
none_live xs none j b at = let k = total_at (λ (r : Role). one_if r.live) (map role_of xs) j (role_of b) (at_map role_of xs j b at) in not_one b.live (omega (arith, k, none))

-- the sum over quiet ones is none
quiet_total : {X : Type 0} (f : Participant → X) (F : X → ℕ) → ((p : Participant) → New p → F (f p) ≡ 0) → (xs : List Actor) → ((j : ℕ) (b : Actor) → get_elem? xs j ≡ some b → Quiet b) → total_participants F (map (participants_of f) xs) ≡ 0
quiet_total f F none [] quiet = refl
quiet_total f F none (b ∷ xs) quiet =
    let q = quiet 0 b refl in
    let own : F (f b.participant) ≡ 0 = none b.participant q.new in
    let joined : total F (map f b.joined) ≡ 0 = ap (λ (ps : List Participant). total F (map f ps)) q.joined in
    let rest = quiet_total f F none xs (λ j c at. quiet (suc j) c at) in omega (arith, own, joined, rest)

first_alone : {X : Type 0} (x y : X) (i : ℕ) → get_elem? (y ∷ []) i ≡ some x → (i ≡ 0) × (x ≡ y)
first_alone x y zero at = (refl, sym (some-injective y x at))
first_alone x y (suc i) at = absurd (some-ne-none x (sym at))

-- the participants of one that joined nobody
of_one : {X : Type 0} (f : Participant → X) (i : ℕ) (x : X) (b : Actor) (ps : List X) → b.joined ≡ [] → ps ≡ participants_of f b → get_elem? ps i ≡ some x → (i ≡ 0) × (x ≡ f b.participant)
of_one f i x b ps none is at = first_alone x (f b.participant) i (sym (ap (λ qs. get_elem? qs i) (is ∙ ap (λ (js : List Participant). f b.participant ∷ map f js) none)) ∙ at)

found : {X : Type 0} (f : Participant → X) (ys : List Actor) (k : ℕ) (ps : List X) → get_elem? (map (participants_of f) ys) k ≡ some ps → (b : Actor) × (get_elem? ys k ≡ some b) × (ps ≡ participants_of f b)
found f [] k ps at = absurd (some-ne-none ps (sym at))
found f (b ∷ ys) zero ps at = (b, refl, sym (some-injective (participants_of f b) ps at))
found f (b ∷ ys) (suc k) ps at = found f ys k ps at

-- ---- registrations

one_of : (n : ℕ) (rs : List Registration) → 1 ≤ total (λ r. one_if (r.number == n)) rs → (r : Registration) × IsIn r rs × (r.number ≡ n)
one_of n [] least = absurd (omega (arith, least))
one_of n (r ∷ rs) least = by_test (one_of n rs) (r.number == n) refl
  where
    by_test : (1 ≤ total (λ q. one_if (q.number == n)) rs → (q : Registration) × IsIn q rs × (q.number ≡ n)) → (b : Bool) → (r.number == n) ≡ b → (q : Registration) × IsIn q (r ∷ rs) × (q.number ≡ n)
    by_test others true e = (r, inl refl, eqb-true r.number n e)
    by_test others false e = let t : one_if (r.number == n) ≡ 0 = ap one_if e in let k = others (omega (arith, least, t)) in (k.0, inr k.1, k.2)

there_is : (o : Option LiveSnapshot) → IsSome o → (x : LiveSnapshot) × (o ≡ Some x)
there_is None k = absurd cc
there_is (Some x) k = (x, refl)

-- ---- the world

module _ (w : World) (a : Actor) (alone : IsAlone w a) (s : IsSound w) where
  role_is : s.led.first ≡ role_of a
  role_is = some-injective s.led.first (role_of a) (sym s.led.there ∙ at_map role_of w.actors 0 a alone.there)

  one_live : total (λ r. one_if r.live) (map role_of w.actors) ≡ 1
  one_live =
      let counted = s.led.counted in
      let made : s.led.first.made ≡ 0 = ap (λ (r : Role). r.made) role_is ∙ alone.made in
      let joined : length s.led.first.joined ≡ 0 = ap (λ (r : Role). length r.joined) role_is ∙ ap (λ (ps : List Participant). length ps) alone.joined in omega (arith, counted, made, joined)

  is_live : a.live ≡ true
  is_live = sym (ap (λ (r : Role). r.live) role_is) ∙ s.led.live

  others_quiet : (xs : List Actor) → w.actors ≡ a ∷ xs → (j : ℕ) (b : Actor) → get_elem? xs j ≡ some b → Quiet b
  others_quiet xs are j b at =
      let one : one_if a.live + total (λ r. one_if r.live) (map role_of xs) ≡ 1 = sym (ap (λ (ys : List Actor). total (λ r. one_if r.live) (map role_of ys)) are) ∙ one_live in
      let live : one_if a.live ≡ 1 = ap one_if is_live in
      let there : get_elem? w.actors (suc j) ≡ some b = ap (λ (ys : List Actor). get_elem? ys (suc j)) are ∙ at in
      let idle = s.idle (suc j) b there (none_live xs (omega (arith, one, live)) j b at) in
      record { new = idle.participant; joined = (s.led.others (suc j) (role_of b) (at_map role_of w.actors (suc j) b there) (λ e. omega (arith, e))).1 }

  behind : (ys : List Actor) → get_elem? ys 0 ≡ some a → (xs : List Actor) × (ys ≡ a ∷ xs)
  behind [] at = absurd (some-ne-none a (sym at))
  behind (b ∷ xs) at = (xs, ap (λ (c : Actor). c ∷ xs) (some-injective b a at))

  abbrev xs : List Actor
  xs = (behind w.actors alone.there).0

  are : w.actors ≡ a ∷ xs
  are = (behind w.actors alone.there).1

  -- the sum over all participants is its own
  only_total : {X : Type 0} (f : Participant → X) (F : X → ℕ) → ((p : Participant) → New p → F (f p) ≡ 0) → total_participants F (participants f w) ≡ F (f a.participant)
  only_total f F none =
      let joined : total F (map f a.joined) ≡ 0 = ap (λ (ps : List Participant). total F (map f ps)) alone.joined in
      let rest = quiet_total f F none xs (others_quiet xs are) in
      let all : total_participants F (participants f w) ≡ (F (f a.participant) + total F (map f a.joined)) + total_participants F (map (participants_of f) xs) = ap (λ (ys : List Actor). total_participants F (map (participants_of f) ys)) are in omega (arith, all, joined, rest)

  of_all : {X : Type 0} (f : Participant → X) (i : ℕ) (x : X) (j : ℕ) (ps : List X) → get_elem? (map (participants_of f) (a ∷ xs)) j ≡ some ps → get_elem? ps i ≡ some x → ((j ≡ 0) × (i ≡ 0) × (x ≡ f a.participant)) ⊎ ((p : Participant) × New p × (x ≡ f p))
  of_all f i x zero ps at in_it = let k = of_one f i x a ps alone.joined (sym (some-injective (participants_of f a) ps at)) in_it in inl (refl, k.0, k.1)
  of_all f i x (suc j) ps at in_it = let b = found f xs j ps at in let q = others_quiet xs are j b.0 b.1 in inr (b.0.participant, q.new, (of_one f i x b.0 ps q.joined b.2 in_it).1)

  -- each participant is its own, or did nothing
  only : {X : Type 0} (f : Participant → X) (j i : ℕ) (x : X) → IsParticipantAt (participants f w) j i x → ((j ≡ 0) × (i ≡ 0) × (x ≡ f a.participant)) ⊎ ((p : Participant) × New p × (x ≡ f p))
  only f j i x there = of_all f i x j there.0 (ap (λ (ys : List Actor). get_elem? (map (participants_of f) ys) j) (sym are) ∙ there.1) there.2

  only_past : (e : Event) → IsPast (participants past_of w) e → IsIn e a.participant.past
  only_past e h = ⊎_elim
      (λ (q : (h.0 ≡ 0) × (h.1 ≡ 0) × (h.2.0 ≡ a.participant.past)). subst (IsIn e) q.2 h.2.2)
      (λ (n : (p : Participant) × New p × (h.2.0 ≡ past_of p)). absurd (subst (IsIn e) (n.2 ∙ ap past_of n.1) h.2.2))
      (only past_of h.0 h.1 h.2.0 h.2.1)

  registered : (n : ℕ) → IsLive w.snapshots n → (r : Registration) × IsIn r a.participant.registered × (r.number ≡ n)
  registered n h =
      let x = there_is (finite.get w.snapshots n) h in
      let mine = only_total registered_of (total (λ r. one_if (r.number == n))) (λ p new. ap (λ (q : Participant). total (λ r. one_if (r.number == n)) q.registered) new) in
      let counted = s.registrations.counted n in
      let least = (s.registrations.live n x.0 x.1).0 in
      let is : count_of (finite.get w.snapshots n) ≡ x.0.registrations = ap count_of x.1 in
      one_of n a.participant.registered (omega (arith, mine, counted, least, is))

  -- nobody else did anything
  no_other : OtherInstalls (participants past_of w) 0 0 → ⊥
  no_other (e, is, (j, i, apart, (past, there, k))) = ⊎_elim
      (λ (q : (j ≡ 0) × (i ≡ 0) × (past ≡ a.participant.past)). ⊎_elim (λ (ne : j ≢ 0). ne q.0) (λ (ne : i ≢ 0). ne q.1) apart)
      (λ (n : (p : Participant) × New p × (past ≡ past_of p)). absurd (subst (IsIn e) (n.2 ∙ ap past_of n.1) k))
      (only past_of j i past there)

  pub tells : IsOnlyOf w a.participant
  tells = record {
    owned = λ n. sym (only_total own_of (times n) (λ p new. ap (λ (q : Participant). times n q.own) new)) ∙ s.owned n;
    closed = sym (only_total past_of (total (λ e. one_if (closes_log e))) (λ p new. ap (λ (q : Participant). total (λ e. one_if (closes_log e)) q.past) new)) ∙ s.faults.log;
    halted = sym (only_total past_of (total (λ e. one_if (is_tables_fault e))) (λ p new. ap (λ (q : Participant). total (λ e. one_if (is_tables_fault e)) q.past) new)) ∙ s.faults.tables;
    edit = ⊎_elim (λ (q : w.installed.last ≡ last_installed w.first_edit a.participant.past). q) (λ (h : OtherInstalls (participants past_of w) 0 0). absurd (no_other h)) (s.edits.edit 0 0 a.participant.past (mine past_of w.actors 0 a a alone.there refl));
    names = λ name client h.
        let k = s.locks.names_had name client h in ⊎_elim
        (λ (q : (k.at ≡ 0) × (k.place ≡ 0) × (k.owner ≡ owner_of a.participant)). (k.transaction, sym (ap (λ o. finite.get o.transactions name) q.2) ∙ k.has))
        (λ (n : (p : Participant) × New p × (k.owner ≡ owner_of p)). let e : finite.get k.owner.transactions name ≡ None = ap (λ o. finite.get o.transactions name) (n.2 ∙ ap owner_of n.1) ∙ finite.get-empty key_cmp name in let c : None ≡ Some k.transaction = sym e ∙ k.has in absurd cc)
        (only owner_of k.at k.place k.owner k.there);
    direct = λ key client h.
        let k = s.locks.keys_direct key client h in ⊎_elim
        (λ (q : (k.at ≡ 0) × (k.place ≡ 0) × (k.owner ≡ owner_of a.participant)). sym (ap (λ o. o.direct) q.2) ∙ k.has)
        (λ (n : (p : Participant) × New p × (k.owner ≡ owner_of p)). let e : k.owner.direct ≡ None = ap (λ o. o.direct) (n.2 ∙ ap owner_of n.1) in let c : None ≡ Some key = sym e ∙ k.has in absurd cc)
        (only owner_of k.at k.place k.owner k.there);
    labels = λ label n h. only_past (told label n) (s.board.numbers label n h);
    live = registered;
  }
