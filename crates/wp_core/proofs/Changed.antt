-- What a change of one state leaves of what actors hold.
use Rattle.std.proofs.Common.{◌≡◌, ◌≢◌, ⊎_elim, inl, inr, ℕ, Bool, true, false, cond, ◌==◌, eq-eqb, true≢false, List, [], ◌∷◌, map, set, refl, sym, subst, ap, ◌∙◌, arith}
use Rattle.std.proofs.lemmas.Bool.Decides.{nat_tests}
use mathlib.Core.Option.{some, some-injective}
use mathlib.Core.Logic.{dite}
use native.Mathlib.Decide.{ℕ_discrete}
use lib.ListN.{get_elem?}
use Rattle.wp_core.proofs.Frames.{set_else, map_set, here, at_map}
use Rattle.wp_core.specs.Lists.{IsIn}
use Rattle.wp_core.specs.Turns.{Turn, write_turn, prepared_turn, snapshots_turn, store_turn, locks_turn, tables_turn, Holders, Holds}
use Rattle.wp_core.specs.States.{Content, writes, prepared, snapshots, store, locks, installed, turn_of}
use Rattle.wp_core.specs.World.{Actor, World, content_of, with_content}
use Rattle.wp_core.specs.Changes.{turn_index, held_with}
use Rattle.wp_core.specs.Sound.Actors.{AreHeld, HoldersHave, NoneAfter, held_of}
use Rattle.wp_core.proofs.Gives.{same_turn, others_turn}

pub changed_there : (w : World) (c : Content) → content_of (with_content w c) (turn_of c) ≡ c
changed_there w (writes t) = refl
changed_there w (prepared t) = refl
changed_there w (snapshots t) = refl
changed_there w (store t) = refl
changed_there w (locks t) = refl
changed_there w (installed t) = refl

pub changed_else : (w : World) (c : Content) (u : Turn) → turn_index u ≢ turn_index (turn_of c) → content_of (with_content w c) u ≡ content_of w u
changed_else w (writes t) write_turn n = absurd (n refl)
changed_else w (prepared t) prepared_turn n = absurd (n refl)
changed_else w (snapshots t) snapshots_turn n = absurd (n refl)
changed_else w (store t) store_turn n = absurd (n refl)
changed_else w (locks t) locks_turn n = absurd (n refl)
changed_else w (installed t) tables_turn n = absurd (n refl)
changed_else w c u n = refl

-- what another actor holds
pub others_hold : (w : World) (c : Content) (by j : ℕ) (held : List Content) → Holds w.holders (turn_of c) by → j ≢ by → AreHeld w.holders (content_of w) j held → AreHeld w.holders (content_of (with_content w c)) j held
others_hold w c by j [] mine ne k = tt
others_hold w c by j (d ∷ others) mine ne k = (k.0, changed_else w c (turn_of d) (others_turn w.holders (turn_of c) (turn_of d) by j mine ne k.0) ∙ k.1, k.2, others_hold w c by j others mine ne k.3)

-- what follows another state of the same actor
after_hold : (w : World) (c : Content) (j : ℕ) (held : List Content) → NoneAfter (turn_of c) held → AreHeld w.holders (content_of w) j held → AreHeld w.holders (content_of (with_content w c)) j held
after_hold w c j [] none k = tt
after_hold w c j (d ∷ others) none k = (k.0, changed_else w c (turn_of d) (λ e. none.0 (same_turn (turn_of c) (turn_of d) e)) ∙ k.1, k.2, after_hold w c j others none.1 k.3)

one_with : (u : Turn) (c d : Content) (others : List Content) (b : Bool) → (b ≡ true → turn_of d ≡ turn_of c) → (turn_of d ≢ u) × NoneAfter u others → NoneAfter u (held_with others c) → NoneAfter u (cond b (c ∷ others) (d ∷ held_with others c))
one_with u c d others true same k rest = ((λ e. k.0 (same refl ∙ e)), k.1)
one_with u c d others false same k rest = (k.0, rest)

equal : (d c : Content) → (turn_index (turn_of d) == turn_index (turn_of c)) ≡ true → turn_of d ≡ turn_of c
equal d c e = same_turn (turn_of c) (turn_of d) (let n : ℕ = turn_index (turn_of d) in let m : ℕ = turn_index (turn_of c) in let q : (n == m) ≡ true = e in grind (arith, nat_tests))

none_with : (u : Turn) (c : Content) (held : List Content) → NoneAfter u held → NoneAfter u (held_with held c)
none_with u c [] k = tt
none_with u c (d ∷ others) k = one_with u c d others (turn_index (turn_of d) == turn_index (turn_of c)) (equal d c) k (none_with u c others k.1)

one_changed : (w : World) (c d : Content) (by : ℕ) (others : List Content) (b : Bool) → (turn_index (turn_of d) == turn_index (turn_of c)) ≡ b → AreHeld w.holders (content_of w) by (d ∷ others) → AreHeld w.holders (content_of (with_content w c)) by (held_with others c)
    → AreHeld w.holders (content_of (with_content w c)) by (cond b (c ∷ others) (d ∷ held_with others c))
one_changed w c d by others true is k rest = let same = equal d c is in let none = subst (λ (u : Turn). NoneAfter u others) same k.2 in (subst (λ (u : Turn). Holds w.holders u by) same k.0, changed_there w c, none, after_hold w c by others none k.3)
one_changed w c d by others false is k rest =
    (k.0, changed_else w c (turn_of d) (λ e. true≢false (sym (eq-eqb (turn_index (turn_of d)) (turn_index (turn_of c)) e) ∙ is)) ∙ k.1, none_with (turn_of d) c others k.2, rest)

-- what the actor holds that changes the state
pub holds_changed : (w : World) (c : Content) (by : ℕ) (held : List Content) → AreHeld w.holders (content_of w) by held → AreHeld w.holders (content_of (with_content w c)) by (held_with held c)
holds_changed w c by [] k = tt
holds_changed w c by (d ∷ others) k = one_changed w c d by others (turn_index (turn_of d) == turn_index (turn_of c)) refl k (holds_changed w c by others k.3)

one_in : (c d e : Content) (others : List Content) (b : Bool) → (b ≡ true → turn_of d ≡ turn_of c) → turn_of e ≢ turn_of c → (IsIn e others → IsIn e (held_with others c)) → IsIn e (d ∷ others) → IsIn e (cond b (c ∷ others) (d ∷ held_with others c))
one_in c d e others true same ne rest there = ⊎_elim (λ (q : d ≡ e). absurd (ne (sym (ap turn_of q) ∙ same refl))) (λ (r : IsIn e others). inr r) there
one_in c d e others false same ne rest there = ⊎_elim (λ (q : d ≡ e). inl q) (λ (r : IsIn e others). inr (rest r)) there

else_in : (c e : Content) (held : List Content) → turn_of e ≢ turn_of c → IsIn e held → IsIn e (held_with held c)
else_in c e [] ne there = absurd there
else_in c e (d ∷ others) ne there = one_in c d e others (turn_index (turn_of d) == turn_index (turn_of c)) (equal d c) ne (else_in c e others ne) there

one_new : (c d e : Content) (others : List Content) (b : Bool) → (turn_index (turn_of d) == turn_index (turn_of c)) ≡ b → turn_of e ≡ turn_of c → (IsIn e others → IsIn c (held_with others c)) → IsIn e (d ∷ others) → IsIn c (cond b (c ∷ others) (d ∷ held_with others c))
one_new c d e others true is same rest there = inl refl
one_new c d e others false is same rest there =
    ⊎_elim (λ (q : d ≡ e). let t : turn_index (turn_of d) ≡ turn_index (turn_of c) = ap turn_index (ap turn_of q ∙ same) in absurd (true≢false (sym (eq-eqb (turn_index (turn_of d)) (turn_index (turn_of c)) t) ∙ is))) (λ (r : IsIn e others). inr (rest r)) there

new_in : (c e : Content) (held : List Content) → turn_of e ≡ turn_of c → IsIn e held → IsIn c (held_with held c)
new_in c e [] same there = absurd there
new_in c e (d ∷ others) same there = one_new c d e others (turn_index (turn_of d) == turn_index (turn_of c)) refl same (new_in c e others same) there

-- ---- who has the states whose turns they hold

pub own_have : (h : Holders) (by : ℕ) (actors : List Actor) (a : Actor) → get_elem? actors by ≡ some a → HoldersHave h (map held_of actors) → (u : Turn) → Holds h u by → (c : Content) × IsIn c a.held × (turn_of c ≡ u)
own_have h by actors a at have u holds =
    let o = have u by holds in
    let same : o.0 ≡ a.held = some-injective o.0 a.held (sym o.1 ∙ at_map held_of actors by a at) in (o.2, subst (IsIn o.2) same o.3, o.4)

-- the holders and one actor change: it has the states of its turns, and others hold no turn that they did not hold
pub have_set : (h g : Holders) (by : ℕ) (actors : List Actor) (a b : Actor) → get_elem? actors by ≡ some a → ((u : Turn) → Holds g u by → (c : Content) × IsIn c b.held × (turn_of c ≡ u)) → ((u : Turn) (j : ℕ) → j ≢ by → Holds g u j → Holds h u j)
    → HoldersHave h (map held_of actors) → HoldersHave g (map held_of (set actors by b))
have_set h g by actors a b at own others have u j holds = dite (ℕ_discrete j by)
    (λ (e : j ≡ by).
    let c = own u (subst (Holds g u) e holds) in
    (b.held, ap (get_elem? (map held_of (set actors by b))) e ∙ at_map held_of (set actors by b) by b (here actors by a b at), c.0, c.1, c.2))
    (λ (ne : j ≢ by).
    let o = have u j (others u j ne holds) in
    (o.0, ap (λ (z : List (List Content)). get_elem? z j) (map_set held_of actors by b) ∙ (set_else (map held_of actors) by j b.held ne ∙ o.1), o.2, o.3, o.4))

-- who holds a turn still has the state that it guards
pub have_changed : (h : Holders) (c : Content) (by : ℕ) (actors : List Actor) (a b : Actor) → get_elem? actors by ≡ some a → b.held ≡ held_with a.held c → HoldersHave h (map held_of actors) → HoldersHave h (map held_of (set actors by b))
have_changed h c by actors a b at is have = have_set h h by actors a b at
    (λ u holds.
    let o = own_have h by actors a at have u holds in
    dite (ℕ_discrete (turn_index u) (turn_index (turn_of c)))
    (λ (q : turn_index u ≡ turn_index (turn_of c)). let t = same_turn (turn_of c) u q in (c, subst (IsIn c) (sym is) (new_in c o.0 a.held (o.2 ∙ t) o.1), sym t))
    (λ (ne : turn_index u ≢ turn_index (turn_of c)). (o.0, subst (IsIn o.0) (sym is) (else_in c o.0 a.held (λ q. ne (ap turn_index (sym o.2 ∙ q))) o.1), o.2)))
    (λ u j ne holds. holds) have
