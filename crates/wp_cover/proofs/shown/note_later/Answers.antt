use Rattle.std.proofs.Common.{◌≡◌, ◌+◌, ◌-◌, ◌<◌, ◌≤◌, ℕ, List, get_or, length, drop, sym, ap, ◌∙◌, arith}
use Rattle.std.proofs.lemmas.List.{drop_all}
use Rattle.wp_model.specs.declared.entry.Entry.{Entry}
use Rattle.wp_model.specs.Flushed.{versions_after}
use Rattle.wp_history.proofs.Full.{later_at}
use Rattle.wp_cover.proofs.Places.{next_item}
use Rattle.wp_cover.proofs.Shows.{later_noted, none_noted}
use Rattle.wp_cover.proofs.shown.note_later.Goals as goal

pub loop-i-preserved : goal.loop-i-preserved
loop-i-preserved c =
    let entries : List Entry = c.args.history.now.entries in
    let base = c.base-base.result in
    let i = c.loop-i.i in
    let entry : Entry = c.index-later-i.result in
    let so_far = c.loop-i.invariant in
    let lt : i < length entries = omega (arith, c.published-i-end.ensures.value, c.loop-i-test.true) in
    let place : base + (i - base) ≡ i = omega (arith, c.requires, so_far.from, c.base-base.ensures.value) in
    let behind : c.later-later.result.now ≡ drop base entries = c.later-later.ensures.value ∙ ap (λ (b : ℕ). drop b entries) (sym c.base-base.ensures.value) in
    let here : entry ≡ get_or entries i entry = later_at entries base (i - base) c.later-later.result.now entry behind c.index-later-i.is ∙ ap (λ (k : ℕ). get_or entries k entry) place in
    record {
      from = omega (arith, so_far.from);
      noted = λ new after. so_far.noted new
          (later_noted c.args.decisions.now c.args.n i (drop i entries) (drop (i + 1) entries) entry c.changes.result.now c.loop-i.newest c.note_changes.new.newest new (next_item entries i entry lt here) c.changes.ensures.value c.in_ok-note_changes.ensures after);
    }

pub returns : goal.returns
returns c =
    let entries : List Entry = c.args.history.now.entries in
    let le : length entries ≤ c.loop-i.i = omega (arith, c.published-i-end.ensures.value, c.loop-i-test.false) in
    c.loop-i.invariant.noted c.loop-i.newest (none_noted c.args.decisions.now c.args.n (versions_after c.loop-i.i (drop c.loop-i.i entries)) c.loop-i.newest (ap (versions_after c.loop-i.i) (drop_all c.loop-i.i entries le)))
