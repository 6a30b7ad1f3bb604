use Rattle.std.proofs.Common.{◌≡◌, [], ◌∷◌, ◌++◌, List, sym, subst, ap, ◌∙◌, append_assoc}
use Rattle.wp_core.specs.Changes.{joins}
use Rattle.wp_shared.specs.Seats.{SharedState, SeatState}
use Rattle.wp_shared.specs.Ending.{AllFree}
use Rattle.wp_shared.proofs.Endings.{none_carried, last_free, leads, none_left, all_made, remains}
use Rattle.wp_shared.proofs.shared.Shared.close.Goals as goal

pub join-requires-clause-other : goal.join-requires-clause-other
join-requires-clause-other g c = let i = c.loop-other.invariant in (last_free c.args.self.table c.pop.new.self.items c.in-Some.other (subst (AllFree c.args.self.table) c.in-Some.ensures.items i.3)).1

pub loop-other-preserved : goal.loop-other-preserved
loop-other-preserved g c =
    let i = c.loop-other.invariant in let free = last_free c.args.self.table c.pop.new.self.items c.in-Some.other (subst (AllFree c.args.self.table) c.in-Some.ensures.items i.3) in (
      c.in-Some.other ∷ i.0,
      i.1 ∙ (ap (λ (x : List SeatState). x ++ i.0) c.in-Some.ensures.items ∙ append_assoc c.pop.new.self.items (c.in-Some.other ∷ []) i.0),
      c.join.ensures ∙ ap (λ (s : SeatState). record s { knows = joins s.knows c.in-Some.other.knows }) i.2,
      free.0,
    )

pub close-requires-clause-first : goal.close-requires-clause-first
close-requires-clause-first g c =
    let all = leads c.args.self.table c.args.seats.items c.remove-first.new.self.items c.remove-first.result c.requires.free c.requires.all c.remove-first.ensures.value c.remove-first.ensures.items in
    let i = c.loop-other.invariant in let v = sym c.into_words.ensures in (
      ap (λ (s : SeatState). s.table) v ∙ (ap (λ (s : SeatState). s.table) i.2 ∙ (all.free.same_table ∙ sym (ap (λ (z : SharedState g.row.D.Denot). z.table) (sym c.into_words-words.ensures)))),
      ap (λ (s : SeatState). s.by) v ∙ (ap (λ (s : SeatState). s.by) i.2 ∙ all.by),
      none_carried c.into_words.result.me.1 (ap (λ (s : SeatState). s.turns) v ∙ (ap (λ (s : SeatState). s.turns) i.2 ∙ all.free.turns)),
    )

pub close-requires-clause-all : goal.close-requires-clause-all
close-requires-clause-all g c =
    let all = leads c.args.self.table c.args.seats.items c.remove-first.new.self.items c.remove-first.result c.requires.free c.requires.all c.remove-first.ensures.value c.remove-first.ensures.items in
    let i = c.loop-other.invariant in let v = sym c.into_words.ensures in
    let gone : c.remove-first.new.self.items ≡ i.0 = i.1 ∙ ap (λ (x : List SeatState). x ++ i.0) (none_left c.loop-other.seats.items (sym c.loop-other.seats.ok.0 ∙ c.in_default.ensures.cases.0)) in
    (ap (λ (s : SeatState). s.knows.held) v ∙ (ap (λ (s : SeatState). s.knows.held) i.2 ∙ all.free.held), all_made c.into_words.result.me.0 c.remove-first.result.knows c.remove-first.new.self.items i.0 (ap (λ (s : SeatState). s.knows) v ∙ ap (λ (s : SeatState). s.knows) i.2) gone all.joined all.made)

pub returns : goal.returns
returns g c =
    let all = leads c.args.self.table c.args.seats.items c.remove-first.new.self.items c.remove-first.result c.requires.free c.requires.all c.remove-first.ensures.value c.remove-first.ensures.items in
    let i = c.loop-other.invariant in let v = sym c.into_words.ensures in
    let gone : c.remove-first.new.self.items ≡ i.0 = i.1 ∙ ap (λ (x : List SeatState). x ++ i.0) (none_left c.loop-other.seats.items (sym c.loop-other.seats.ok.0 ∙ c.in_default.ensures.cases.0)) in
    remains _ c.args.self c.args.seats.items i.0 c.remove-first.result c.into_words.result.me.0 _ (sym c.into_words-words.ensures) (all.all ∙ ap (λ (x : List SeatState). c.remove-first.result ∷ x) gone)
    (ap (λ (s : SeatState). s.knows) v ∙ ap (λ (s : SeatState). s.knows) i.2) c.close.ensures
