use Rattle.std.proofs.Common.{◌≡◌, ℕ, length, refl, arith, sym, subst, ap, ◌∙◌}
use Rattle.wp_core.specs.Entries.{pending_pair}
use Rattle.wp_core.specs.Views.{words_stay}
use Rattle.wp_rule.specs.Knows.{Noted}
use Rattle.wp_shared.specs.Notes.{GoesOn}
use Rattle.wp_shared.proofs.Goes.{stays}
use Rattle.wp_commits.specs.declared.way.Way.{Way}
use Rattle.wp_commits.specs.declared.way.Way.TheVariants.{Undecided, InWord, Delayed}
use Rattle.wp_commits.specs.Bound.{bound_with}
use Rattle.wp_commits.specs.Notes.{is_of_delayed}
use Rattle.wp_commits.specs.Ways.{way_of, is_of_way, with_way, IsReadyFor, IsElsewhere, IsEntered}
use Rattle.wp_commits.proofs.Clears.{reached_low}
use Rattle.wp_commits.proofs.Ways.{keeps_ready, ready_still, pair_of_way, pair_of_delayed}
use Rattle.wp_commits.proofs.entering.enter.Goals as goal

pub returns-in-Undecided-clause-seat : goal.returns-in-Undecided-clause-seat
returns-in-Undecided-clause-seat g c = let z = c.args.store.now in let d = c.args.log.now.state in let way : Undecided ≡ way_of z.cells (pending_pair d.history d.pending) = sym c.in-Undecided.is ∙ (c.next_way.ensures ∙ ap (λ (n : ℕ). way_of n (pending_pair d.history d.pending)) (sym c.bits.ensures.1)) in let s = c.args.seat.now in stays (is_of_way z.cells (way_of z.cells (pending_pair d.history d.pending))) s s s

pub returns-in-Undecided-clause-words : goal.returns-in-Undecided-clause-words
returns-in-Undecided-clause-words g c bound words there = let z = c.args.store.now in let d = c.args.log.now.state in let way : Undecided ≡ way_of z.cells (pending_pair d.history d.pending) = sym c.in-Undecided.is ∙ (c.next_way.ensures ∙ ap (λ (n : ℕ). way_of n (pending_pair d.history d.pending)) (sym c.bits.ensures.1)) in
    subst (λ (w : Way). Noted c.args.seat.now.knows (words_stay (bound_with z.cells (length d.history) bound words w) (with_way words w))) way there

pub returns-in-Undecided-clause-there : goal.returns-in-Undecided-clause-there
returns-in-Undecided-clause-there g c bound words there = let z = c.args.store.now in let d = c.args.log.now.state in let way : Undecided ≡ way_of z.cells (pending_pair d.history d.pending) = sym c.in-Undecided.is ∙ (c.next_way.ensures ∙ ap (λ (n : ℕ). way_of n (pending_pair d.history d.pending)) (sym c.bits.ensures.1)) in subst (IsEntered c.args.seat.now.knows z.cells words) way tt

pub enter_pair-requires-clause-pending : goal.enter_pair-requires-clause-pending
enter_pair-requires-clause-pending g c = let z = c.args.store.now in let d = c.args.log.now.state in let way : InWord c.in-InWord.p c.in-InWord.c ≡ way_of z.cells (pending_pair d.history d.pending) = sym c.in-InWord.is ∙ (c.next_way.ensures ∙ ap (λ (n : ℕ). way_of n (pending_pair d.history d.pending)) (sym c.bits.ensures.1)) in (pair_of_way z.cells (pending_pair d.history d.pending) c.in-InWord.p c.in-InWord.c (sym way)).0

pub enter_pair-requires-clause-narrow : goal.enter_pair-requires-clause-narrow
enter_pair-requires-clause-narrow g c = let z = c.args.store.now in let d = c.args.log.now.state in let way : InWord c.in-InWord.p c.in-InWord.c ≡ way_of z.cells (pending_pair d.history d.pending) = sym c.in-InWord.is ∙ (c.next_way.ensures ∙ ap (λ (n : ℕ). way_of n (pending_pair d.history d.pending)) (sym c.bits.ensures.1)) in (pair_of_way z.cells (pending_pair d.history d.pending) c.in-InWord.p c.in-InWord.c (sym way)).1

pub enter_pair-requires-clause-ready : goal.enter_pair-requires-clause-ready
enter_pair-requires-clause-ready g c = let z = c.args.store.now in let d = c.args.log.now.state in let way : InWord c.in-InWord.p c.in-InWord.c ≡ way_of z.cells (pending_pair d.history d.pending) = sym c.in-InWord.is ∙ (c.next_way.ensures ∙ ap (λ (n : ℕ). way_of n (pending_pair d.history d.pending)) (sym c.bits.ensures.1)) in subst (IsReadyFor c.args.seat.now.knows z.cells (length d.history)) (sym way) c.requires.ready

pub returns-in-InWord-clause-seat : goal.returns-in-InWord-clause-seat
returns-in-InWord-clause-seat g c = let z = c.args.store.now in let d = c.args.log.now.state in let way : InWord c.in-InWord.p c.in-InWord.c ≡ way_of z.cells (pending_pair d.history d.pending) = sym c.in-InWord.is ∙ (c.next_way.ensures ∙ ap (λ (n : ℕ). way_of n (pending_pair d.history d.pending)) (sym c.bits.ensures.1)) in let s = c.args.seat.now in subst (λ (w : Way). GoesOn (is_of_way z.cells w) s.knows.held s.turns s c.enter_pair.new.seat) way c.enter_pair.ensures.seat

pub returns-in-InWord-clause-words : goal.returns-in-InWord-clause-words
returns-in-InWord-clause-words g c bound words there = let z = c.args.store.now in let d = c.args.log.now.state in let way : InWord c.in-InWord.p c.in-InWord.c ≡ way_of z.cells (pending_pair d.history d.pending) = sym c.in-InWord.is ∙ (c.next_way.ensures ∙ ap (λ (n : ℕ). way_of n (pending_pair d.history d.pending)) (sym c.bits.ensures.1)) in
    subst (λ (w : Way). Noted c.enter_pair.new.seat.knows (words_stay (bound_with z.cells (length d.history) bound words w) (with_way words w))) way (c.enter_pair.ensures.words bound words there)

pub returns-in-InWord-clause-there : goal.returns-in-InWord-clause-there
returns-in-InWord-clause-there g c bound words there = let z = c.args.store.now in let d = c.args.log.now.state in let way : InWord c.in-InWord.p c.in-InWord.c ≡ way_of z.cells (pending_pair d.history d.pending) = sym c.in-InWord.is ∙ (c.next_way.ensures ∙ ap (λ (n : ℕ). way_of n (pending_pair d.history d.pending)) (sym c.bits.ensures.1)) in subst (IsEntered c.enter_pair.new.seat.knows z.cells words) way (c.enter_pair.ensures.there bound words there)

pub returns-in-InWord-clause-elsewhere : goal.returns-in-InWord-clause-elsewhere
returns-in-InWord-clause-elsewhere g c place away ready = let z = c.args.store.now in let d = c.args.log.now.state in let way : InWord c.in-InWord.p c.in-InWord.c ≡ way_of z.cells (pending_pair d.history d.pending) = sym c.in-InWord.is ∙ (c.next_way.ensures ∙ ap (λ (n : ℕ). way_of n (pending_pair d.history d.pending)) (sym c.bits.ensures.1)) in c.enter_pair.ensures.elsewhere place (subst (IsElsewhere z.cells place) (sym way) away) ready

pub enter_delayed-requires-clause-pending : goal.enter_delayed-requires-clause-pending
enter_delayed-requires-clause-pending g c = let z = c.args.store.now in let d = c.args.log.now.state in let way : Delayed c.in-Delayed.p c.in-Delayed.c ≡ way_of z.cells (pending_pair d.history d.pending) = sym c.in-Delayed.is ∙ (c.next_way.ensures ∙ ap (λ (n : ℕ). way_of n (pending_pair d.history d.pending)) (sym c.bits.ensures.1)) in (pair_of_delayed z.cells (pending_pair d.history d.pending) c.in-Delayed.p c.in-Delayed.c (sym way)).0

pub enter_delayed-requires-clause-wide : goal.enter_delayed-requires-clause-wide
enter_delayed-requires-clause-wide g c = let z = c.args.store.now in let d = c.args.log.now.state in let way : Delayed c.in-Delayed.p c.in-Delayed.c ≡ way_of z.cells (pending_pair d.history d.pending) = sym c.in-Delayed.is ∙ (c.next_way.ensures ∙ ap (λ (n : ℕ). way_of n (pending_pair d.history d.pending)) (sym c.bits.ensures.1)) in (pair_of_delayed z.cells (pending_pair d.history d.pending) c.in-Delayed.p c.in-Delayed.c (sym way)).1

pub enter_delayed-requires-clause-reached : goal.enter_delayed-requires-clause-reached
enter_delayed-requires-clause-reached g c = let z = c.args.store.now in let d = c.args.log.now.state in let way : Delayed c.in-Delayed.p c.in-Delayed.c ≡ way_of z.cells (pending_pair d.history d.pending) = sym c.in-Delayed.is ∙ (c.next_way.ensures ∙ ap (λ (n : ℕ). way_of n (pending_pair d.history d.pending)) (sym c.bits.ensures.1)) in subst (IsReadyFor c.args.seat.now.knows z.cells (length d.history)) (sym way) c.requires.ready

pub returns-in-Delayed-clause-seat : goal.returns-in-Delayed-clause-seat
returns-in-Delayed-clause-seat g c = let z = c.args.store.now in let d = c.args.log.now.state in let way : Delayed c.in-Delayed.p c.in-Delayed.c ≡ way_of z.cells (pending_pair d.history d.pending) = sym c.in-Delayed.is ∙ (c.next_way.ensures ∙ ap (λ (n : ℕ). way_of n (pending_pair d.history d.pending)) (sym c.bits.ensures.1)) in let s = c.args.seat.now in subst (λ (w : Way). GoesOn (is_of_way z.cells w) s.knows.held s.turns s c.enter_delayed.new.seat) way c.enter_delayed.ensures.seat

pub returns-in-Delayed-clause-words : goal.returns-in-Delayed-clause-words
returns-in-Delayed-clause-words g c bound words there = let z = c.args.store.now in let d = c.args.log.now.state in let way : Delayed c.in-Delayed.p c.in-Delayed.c ≡ way_of z.cells (pending_pair d.history d.pending) = sym c.in-Delayed.is ∙ (c.next_way.ensures ∙ ap (λ (n : ℕ). way_of n (pending_pair d.history d.pending)) (sym c.bits.ensures.1)) in let u = c.enter_delayed.new.seat in
    let kept = c.enter_delayed.ensures.seat.noted (words_stay bound words) refl there in
    subst (λ (w : Way). Noted u.knows (words_stay (bound_with z.cells (length d.history) bound words w) (with_way words w))) way
    (subst (λ (b : ℕ). Noted u.knows (words_stay b words)) (sym (reached_low c.in-Delayed.p bound (c.enter_delayed.ensures.low bound words there))) kept)

pub returns-in-Delayed-clause-there : goal.returns-in-Delayed-clause-there
returns-in-Delayed-clause-there g c bound words there = let z = c.args.store.now in let d = c.args.log.now.state in let way : Delayed c.in-Delayed.p c.in-Delayed.c ≡ way_of z.cells (pending_pair d.history d.pending) = sym c.in-Delayed.is ∙ (c.next_way.ensures ∙ ap (λ (n : ℕ). way_of n (pending_pair d.history d.pending)) (sym c.bits.ensures.1)) in subst (IsEntered c.enter_delayed.new.seat.knows z.cells words) way c.enter_delayed.ensures.there

pub returns-in-Delayed-clause-elsewhere : goal.returns-in-Delayed-clause-elsewhere
returns-in-Delayed-clause-elsewhere g c place away ready =
    let s = c.args.seat.now in let u = c.enter_delayed.new.seat in let published = length c.args.log.now.state.history in
    let keeps = keeps_ready is_of_delayed s u _ _ (λ i pair. (refl, refl, refl)) c.enter_delayed.ensures.seat (λ bound words there. (bound, c.enter_delayed.ensures.seat.noted (words_stay bound words) refl there, omega arith)) in
    ready_still s.knows u.knows c.args.store.now.cells published published keeps (omega arith) place ready
