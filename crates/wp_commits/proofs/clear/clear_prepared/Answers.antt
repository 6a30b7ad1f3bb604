use Rattle.std.proofs.Common.{List, [], ◌∷◌, inl, inr, length, refl, sym, subst, ap, ◌∙◌}
use Rattle.wp_model.specs.PreparedSets.{NoneDelayed}
use Rattle.wp_judge.specs.Words.{commit_pair}
use Rattle.wp_core.specs.Lists.{IsIn}
use Rattle.wp_core.specs.States.{Content, prepared, writes}
use Rattle.wp_core.specs.Turns.{prepared_turn}
use Rattle.wp_core.specs.Views.{passed, apart, words_stay, delayed_flag_stays}
use Rattle.wp_shared.specs.Notes.{GoesOn, DelayedFlagTells}
use Rattle.wp_shared.specs.Seats.{SeatState}
use Rattle.wp_shared.proofs.Tables.{knows_to_give}
use Rattle.wp_commits.specs.Bound.{raised}
use Rattle.wp_commits.specs.Cleared.{IsThere}
use Rattle.wp_commits.specs.Notes.{is_of_words}
use Rattle.wp_commits.proofs.Clears.{number_reached, passed_there, still_there, then_noted, then_flags, still_noted, just_noted, words_under_prepared}
use Rattle.wp_commits.proofs.Flags.{tells_still}
use Rattle.wp_commits.proofs.Going.{knows_passed, knows_apart}
use Rattle.wp_commits.proofs.Through.{held_taken, holds_still, goes_through}
use Rattle.wp_commits.proofs.clear.clear_prepared.Goals as goal

pub take_turn-tables-requires-clause-seat : goal.take_turn-tables-requires-clause-seat
take_turn-tables-requires-clause-seat g c = c.requires.seat

pub raise_past-requires : goal.raise_past-requires
raise_past-requires g c = let z = c.args.store.now in let s = c.args.seat.now in let d = c.args.log.now.state in let t = c.take_turn-tables in let taken = t.ensures.taken in let k = c.requires.there in record {
  seat = taken.holds.same_table;
  held = held_taken z s t.new.seat s (prepared t.result.value) (prepared t.result.value) (writes d ∷ []) c.requires.held taken ∙ ap (λ x. prepared x ∷ writes d ∷ []) (sym c.deref_mut.ensures.value);
  wanted = c.requires.wanted;
  there = still_there s.knows t.new.seat.knows d.history c.args.place c.args.p c.args.c k k.bound (taken.goes.noted (words_stay k.bound k.words) refl k.noted);
  flag = subst (DelayedFlagTells t.new.seat.knows) (sym c.deref_mut.ensures.value) taken.knows;
}

pub note-requires : goal.note-requires
note-requires g c = let s = c.args.seat.now in let d = c.args.log.now.state in let t = c.take_turn-tables.new.seat in let taken = c.take_turn-tables.ensures.taken in let u = c.raise_past.new.seat in let raise = c.raise_past.ensures in
    let was = c.requires.there in let k : IsThere t.knows d.history c.args.place c.args.p c.args.c = still_there s.knows t.knows d.history c.args.place c.args.p c.args.c was was.bound (taken.goes.noted (words_stay was.bound was.words) refl was.noted) in
    record {
      seat = (ap (λ (x : SeatState). x.table) raise.seat.same ∙ taken.holds.same_table, ap (λ (x : SeatState). x.knows.live) raise.seat.same ∙ taken.holds.live);
      known = knows_passed u.knows d c.args.place c.args.p c.args.c (subst (IsIn (writes d)) (sym (ap (λ (x : SeatState). x.knows.held) raise.seat.same)) (inr (inl refl)))
          (passed_there t.knows u.knows d.history c.args.place c.args.p c.args.c c.args.store.now.cells (length d.history) k (raise.bound k.bound k.words k.noted));
    }

pub delay-requires : goal.delay-requires
delay-requires g c =
    let k = c.requires.there in let d = c.args.log.now.state in let taken = c.take_turn-tables.ensures.taken in let raise = c.raise_past.ensures in let u = c.raise_past.new.seat in let w = c.note.new.seat in let new = c.note.ensures in
    let b = raised c.args.store.now.cells (length d.history) k.bound c.args.c in
    let one = passed c.args.place (commit_pair c.args.p c.args.c) in let back = sym c.deref_mut-2.ensures.value in record {
      seat = ap (λ (x : SeatState). x.table) new ∙ (ap (λ (x : SeatState). x.table) raise.seat.same ∙ taken.holds.same_table);
      held = ap (λ (x : SeatState). x.knows.held) new ∙ (ap (λ (x : SeatState). x.knows.held) raise.seat.same ∙ ap (λ x. prepared x ∷ writes d ∷ []) back);
      decided = k.decided;
      reached = (b, k.words, still_noted u w one (words_stay b k.words) new (raise.bound k.bound k.words (taken.goes.noted (words_stay k.bound k.words) refl k.noted)), number_reached c.args.store.now.cells (length d.history) k.bound c.args.p c.args.c k.ordered);
      flag = subst (DelayedFlagTells w.knows) back (tells_still u.knows w.knows delayed_flag_stays (NoneDelayed c.raise_past.new.tables) (λ value there. still_noted u w one (delayed_flag_stays value) new there) raise.flag);
    }

pub note-requires-2 : goal.note-requires-2
note-requires-2 g c =
    let s = c.args.seat.now in let d = c.args.log.now.state in let taken = c.take_turn-tables.ensures.taken in let u = c.raise_past.new.seat in let w = c.note.new.seat in let new = c.note.ensures in let v = c.delay.new.seat in let raise = c.raise_past.ensures in let delay = c.delay.ensures in
    let k = c.requires.there in let b = raised c.args.store.now.cells (length d.history) k.bound c.args.c in
    record {
      seat = (
        ap (λ (x : SeatState). x.table) delay.seat.same ∙ (ap (λ (x : SeatState). x.table) new ∙ (ap (λ (x : SeatState). x.table) raise.seat.same ∙ taken.holds.same_table)),
        ap (λ (x : SeatState). x.knows.live) delay.seat.same ∙ (ap (λ (x : SeatState). x.knows.live) new ∙ (ap (λ (x : SeatState). x.knows.live) raise.seat.same ∙ taken.holds.live)),
      );
      known = knows_apart v.knows d c.args.place c.args.p c.args.c c.delay.new.tables (ap (λ (x : SeatState). x.knows.held) delay.seat.same)
          (still_there s.knows v.knows d.history c.args.place c.args.p c.args.c k b
          (delay.seat.noted (words_stay b k.words) refl (still_noted u w (passed c.args.place (commit_pair c.args.p c.args.c)) (words_stay b k.words) new (raise.bound k.bound k.words (taken.goes.noted (words_stay k.bound k.words) refl k.noted)))))
          delay.apart;
    }

pub give_turn-requires-clause-holds : goal.give_turn-requires-clause-holds
give_turn-requires-clause-holds g c =
    let z = c.args.store.now in let s = c.args.seat.now in let d = c.args.log.now.state in let t = c.take_turn-tables in let u = c.raise_past.new.seat in let w = c.note.new.seat in let v = c.delay.new.seat in let x = c.note-2.new.seat in let now = c.delay.new.tables in
    let middle : List Content = prepared c.raise_past.new.tables ∷ writes d ∷ [] in let held : List Content = prepared now ∷ writes d ∷ [] in
    let under : GoesOn is_of_words held t.new.seat.turns t.new.seat x = then_noted t.new.seat v x x is_of_words (apart c.args.place (commit_pair c.args.p c.args.c)) held t.new.seat.turns
    (then_flags t.new.seat w v v middle held t.new.seat.turns (then_noted t.new.seat u w v is_of_words (passed c.args.place (commit_pair c.args.p c.args.c)) middle t.new.seat.turns c.raise_past.ensures.seat c.note.ensures) c.delay.ensures.seat)
    c.note-2.ensures in
    (writes d ∷ [], s.turns, holds_still z s t.new.seat x (prepared t.result.value) (prepared now) (writes d ∷ []) c.requires.held t.ensures.taken is_of_words (writes d ∷ []) under refl)

pub give_turn-requires-clause-knows : goal.give_turn-requires-clause-knows
give_turn-requires-clause-knows g c = let v = c.delay.new.seat in let x = c.note-2.new.seat in let now = c.delay.new.tables in
    knows_to_give x.knows (prepared now)
    (tells_still v.knows x.knows delayed_flag_stays (NoneDelayed now) (λ value there. still_noted v x (apart c.args.place (commit_pair c.args.p c.args.c)) (delayed_flag_stays value) c.note-2.ensures there) c.delay.ensures.flag)

pub returns : goal.returns
returns g c =
    let z = c.args.store.now in let s = c.args.seat.now in let d = c.args.log.now.state in let t = c.take_turn-tables in let taken = t.ensures.taken in let u = c.raise_past.new.seat in let w = c.note.new.seat in let v = c.delay.new.seat in let x = c.note-2.new.seat in let y = c.give_turn.new.seat in let now = c.delay.new.tables in
    let delay = c.delay.ensures in
    let one = passed c.args.place (commit_pair c.args.p c.args.c) in let two = apart c.args.place (commit_pair c.args.p c.args.c) in
    let middle : List Content = prepared c.raise_past.new.tables ∷ writes d ∷ [] in let held : List Content = prepared now ∷ writes d ∷ [] in
    let under : GoesOn is_of_words held t.new.seat.turns t.new.seat x = then_noted t.new.seat v x x is_of_words two held t.new.seat.turns
    (then_flags t.new.seat w v v middle held t.new.seat.turns (then_noted t.new.seat u w v is_of_words one middle t.new.seat.turns c.raise_past.ensures.seat c.note.ensures) delay.seat) c.note-2.ensures in
    let holds = holds_still z s t.new.seat x (prepared t.result.value) (prepared now) (writes d ∷ []) c.requires.held taken is_of_words (writes d ∷ []) under refl in
    let gave = (c.give_turn.ensures (writes d ∷ []) s.turns holds).goes in
    record {
      seat = goes_through z s t.new.seat x (prepared t.result.value) (prepared now) (writes d ∷ []) c.requires.held taken is_of_words (writes d ∷ []) under refl prepared_turn y words_under_prepared gave;
      bound = λ bound words there.
          let fact = words_stay (raised z.cells (length d.history) bound c.args.c) words in
          gave.noted fact refl (still_noted v x two fact c.note-2.ensures (delay.seat.noted fact refl (still_noted u w one fact c.note.ensures (c.raise_past.ensures.bound bound words (taken.goes.noted (words_stay bound words) refl there)))));
      ready = (gave.noted one refl (still_noted v x two one c.note-2.ensures (delay.seat.noted one refl (just_noted u w one c.note.ensures))), gave.noted two refl (just_noted v x two c.note-2.ensures));
    }
