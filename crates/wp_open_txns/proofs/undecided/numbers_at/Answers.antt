use Rattle.std.proofs.Common.{◌≡◌, ◌≤◌, ◌<◌, Bool, ◌&&◌, ◌||◌, List, length, sym, ap, subst, ◌∙◌, get_or, drop}
use Rattle.std.specs.Prelude.{◌==◌, nat_le}
use Rattle.std.specs.List.{list_any}
use Rattle.std.proofs.lemmas.Iterator.{items_from_collect}
use Rattle.std.proofs.lemmas.Iterator.Consumers.{YieldsList-from_rest}
use Rattle.std.proofs.lemmas.Result.{IfOk-weaker}
use Rattle.wp_model.specs.declared.entry.Entry.{Entry}
use Rattle.wp_model.specs.History.{decides, is_undecided}
use Rattle.wp_history_laws.proofs.Undecided.{is_undecided_by_list}
use Rattle.wp_open_txns.proofs.UndecidedAt.{or_none, behind_is, decided_more, set_at, all_decided}
use Rattle.wp_open_txns.proofs.undecided.numbers_at.Goals as goal

pub loop-entry-init : goal.loop-entry-init
loop-entry-init c = λ p.
    c.in_ok-numbers.ensures p
    ∙ ap (λ (b : Bool). nat_le p c.args.n && b) (ap (list_any (λ q. q == p)) c.undecided.ensures ∙ is_undecided_by_list c.args.history.now.entries p ∙ sym (or_none _))

pub loop-entry-preserved : goal.loop-entry-preserved
loop-entry-preserved c = λ p.
    let history = c.args.history.now in
    let behind = behind_is history.entries history.base c.args.n c.base.result c.later.result.now c.requires.from c.requires.within c.base.ensures.value c.later.ensures.value in
    c.in_ok-add_decided.ensures p
    ∙ ap (λ (b : Bool). b || (nat_le p c.args.n && decides p c.entry-item.result)) (c.loop-entry.invariant p)
    ∙ decided_more p c.args.n (is_undecided history.entries p) (drop c.args.n history.entries) c.loop-entry.entry-index c.entry-item.result
    (subst (λ (xs : List Entry). c.loop-entry.entry-index < length xs) behind c.loop-entry-test.true) (subst (λ (xs : List Entry). c.entry-item.result ≡ get_or xs c.loop-entry.entry-index c.entry-item.result) behind c.entry-item.is)

pub returns : goal.returns
returns c =
    let history = c.args.history.now in
    let behind = behind_is history.entries history.base c.args.n c.base.result c.later.result.now c.requires.from c.requires.within c.base.ensures.value c.later.ensures.value in
    let gave = c.into_iter.ensures.into_iter_gives in
    let done = subst (λ (xs : List Entry). length xs ≤ c.loop-entry.entry-index) behind c.loop-entry-test.false in
    let keys = set_at history.entries c.args.n c.later.ensures.legal c.requires.within c.loop-entry.numbers gave.4 (λ p. c.loop-entry.invariant p ∙ all_decided p c.args.n (is_undecided history.entries p) (drop c.args.n history.entries) c.loop-entry.entry-index done) in
    IfOk-weaker c.collect.result _ _ (λ numbers is. is ∙ keys) (items_from_collect c.collect.result c.collect.ensures.ran (YieldsList-from_rest c.loop-entry.numbers.keys gave.0))
