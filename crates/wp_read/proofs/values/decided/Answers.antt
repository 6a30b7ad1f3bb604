use Rattle.std.proofs.Common.{ℕ, List, sym, subst, ap, ◌∙◌, ◌<◌, length, arith}
use Rattle.std.specs.Option.{option_map}
use Rattle.wp_model.specs.declared.version.Version.{Version}
use Rattle.wp_core.specs.Lists.{IsIn}
use Rattle.wp_read.specs.Rows.{IsRowOf}
use Rattle.wp_read.specs.Values.{NoneCommitted}
use Rattle.wp_read.proofs.Rounds.{first_within}
use Rattle.wp_read.proofs.Shows.{row_shown}
use Rattle.wp_read.proofs.values.decided.Goals as goal

pub first_visible-requires-clause-versions : goal.first_visible-requires-clause-versions
first_visible-requires-clause-versions g c v there le = c.requires.versions v (subst (IsIn v) c.as_slice.ensures.value there) le

pub take_version-requires : goal.take_version-requires
take_version-requires g c =
    subst (λ (xs : List Version). c.in-Some.i < length xs) c.as_slice.ensures.value (first_within c.args.seat.now.knows.participant.seen c.args.snapshot.now.number c.as_slice.result.now c.in-Some.i c.in-Some.ensures.first)

pub returns-in-Some-clause-says : goal.returns-in-Some-clause-says
returns-in-Some-clause-says g c = λ key shows.
    let f = c.in-Some.ensures.first in let are = sym c.as_slice.ensures.value ∙ f.are in let seen = c.args.seat.now.knows.participant.seen in let n = c.args.snapshot.now.number in
    let row = c.row_of.ensures ∙ ap (λ (v : Version). option_map (λ (value : List ℕ). (v.number, value)) v.value) (c.take_version.ensures f.front f.back f.version are f.place) in
    subst (IsRowOf seen key n) (sym row) (row_shown seen key n c.args.most c.args.found f.front f.back f.version shows are f.none_before f.committed)

pub returns-then-as_slice-most-clause-says : goal.returns-then-as_slice-most-clause-says
returns-then-as_slice-most-clause-says g c = λ key shows.
    let short : length c.args.found < c.args.most = omega (arith, ap length c.as_slice-in-None.ensures.value) in
    shows.none short (subst (NoneCommitted c.args.seat.now.knows.participant.seen c.args.snapshot.now.number) c.as_slice.ensures.value c.in-None.ensures.first)

pub returns-else-as_slice-most-clause-says : goal.returns-else-as_slice-most-clause-says
returns-else-as_slice-most-clause-says g c = λ key shows. subst (NoneCommitted c.args.seat.now.knows.participant.seen c.args.snapshot.now.number) c.as_slice.ensures.value c.in-None.ensures.first
