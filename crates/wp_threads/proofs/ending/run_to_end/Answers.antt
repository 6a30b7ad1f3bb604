use Rattle.std.proofs.Common.{rules, ◌≡◌, List, length, map, drop, sym, subst, ap, ◌∙◌}
use Rattle.std.proofs.lemmas.List.{take_at}
use Rattle.wp_shared.specs.Ending.{AllFree, AreAll}
use Rattle.wp_shared.specs.Seats.{SeatState}
use Rattle.wp_seats.specs.declared.session.Session.{Session}
use Rattle.wp_seats.specs.Lists.{seat_of, answers_of}
use Rattle.wp_threads.specs.Over.{Answered, AreOver}
use Rattle.wp_threads.proofs.Handed.{still_all, all_free, run_explained}
use Rattle.wp_threads.proofs.ending.run_to_end.Goals as goal

pub finish-left-requires-clause-free : goal.finish-left-requires-clause-free
finish-left-requires-clause-free g c =
    let ran = c.run_all.new.sessions in let count : length ran ≡ c.args.sessions.len = search rules in
    let seats = c.part_all-seats.ensures.seats ∙ ap (map (seat_of {D = g.row.D.Denot})) (take_at ran (drop (length ran) c.args.sessions.items) c.args.sessions.len count) in
    subst (AllFree c.args.store.table) (sym seats) (all_free c.args.store (map (seat_of {D = g.row.D.Denot}) c.as_mut_slice.result.now) (map (seat_of {D = g.row.D.Denot}) ran) c.run_all.ensures.stay)

pub finish-left-requires-clause-all : goal.finish-left-requires-clause-all
finish-left-requires-clause-all g c =
    let ran = c.run_all.new.sessions in let count : length ran ≡ c.args.sessions.len = search rules in
    let seats = c.part_all-seats.ensures.seats ∙ ap (map (seat_of {D = g.row.D.Denot})) (take_at ran (drop (length ran) c.args.sessions.items) c.args.sessions.len count) in
    subst AreAll (sym seats) (still_all c.args.store (map (seat_of {D = g.row.D.Denot}) c.as_mut_slice.result.now) (map (seat_of {D = g.row.D.Denot}) ran) c.run_all.ensures.stay
    (subst (λ (ss : List (Session g.row.D.Denot)). AreAll (map seat_of ss)) (sym c.as_mut_slice.ensures.value) c.requires.all))

pub returns-clause-run : goal.returns-clause-run
returns-clause-run g c =
    let ran = c.run_all.new.sessions in let count : length ran ≡ c.args.sessions.len = search rules in
    let all = take_at ran (drop (length ran) c.args.sessions.items) c.args.sessions.len count in
    let seats = c.part_all-seats.ensures.seats ∙ ap (map (seat_of {D = g.row.D.Denot})) all in
    let answers = c.part_all-seats.ensures.answers ∙ ap (map (answers_of {D = g.row.D.Denot})) all in
    run_explained c.args.store c.args.parts.now _ _ _ _
    (λ found is. subst (λ (x : List Answered × List SeatState). AreOver c.args.store found c.args.parts.now x.0 x.1) (λ i. (sym answers i, sym seats i)) (c.run_all.ensures.over found is))
    (subst AreAll (sym seats) (still_all c.args.store (map (seat_of {D = g.row.D.Denot}) c.as_mut_slice.result.now) (map (seat_of {D = g.row.D.Denot}) ran) c.run_all.ensures.stay
    (subst (λ (ss : List (Session g.row.D.Denot)). AreAll (map seat_of ss)) (sym c.as_mut_slice.ensures.value) c.requires.all))) c.finish-left.ensures.ended
