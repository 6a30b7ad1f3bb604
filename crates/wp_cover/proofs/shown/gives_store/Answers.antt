use Rattle.std.proofs.Common.{List, subst}
use Rattle.wp_model.specs.declared.entry.Entry.{Entry}
use Rattle.wp_model.specs.History.{value_at}
use Rattle.wp_cover.specs.Sources.{all_of}
use Rattle.wp_cover.specs.Store.{IsStore}
use Rattle.wp_cover.specs.Shown.{shown}
use Rattle.wp_cover.proofs.Stores.{same_stores}
use Rattle.wp_cover.proofs.Shows.{gives_all}
use Rattle.wp_cover.proofs.shown.gives_store.Goals as goal

pub returns : goal.returns
returns c =
    let history = c.args.decisions.now in
    let first = subst (λ (h : List Entry). IsStore (λ key. value_at h key c.args.n) c.in_ok-store.store) c.requires.same c.in_ok-store.ensures in
    gives_all history c.args.n (all_of c.args.sources.now) c.eq.result
    (same_stores (λ key. value_at history key c.args.n) (shown history c.args.n (all_of c.args.sources.now)) c.in_ok-store.store c.in_ok-newest.newest.values c.eq.result first c.in_ok-newest.ensures.values c.eq.ensures)
