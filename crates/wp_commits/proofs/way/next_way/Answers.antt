use Rattle.std.proofs.Common.{◌≡◌, List, suc, ℕ, ◌+◌, length, refl, sym, subst, ap, ◌∙◌, Some, arith}
use Rattle.std.specs.Prelude.{slice_get}
use Rattle.std.proofs.lemmas.Option.{slice_get_read}
use Rattle.wp_model.specs.declared.entry.Entry.{Entry}
use Rattle.wp_core.specs.Entries.{pair_by}
use Rattle.wp_commits.proofs.Puts.{pair_at_order}
use Rattle.wp_commits.proofs.way.next_way.Goals as goal

pub of-requires-clause-pair : goal.of-requires-clause-pair
of-requires-clause-pair g c pair is = let d = c.args.log.now.state in let entries = c.pending.result.now in let here : Entry = c.in-Some.entry.now in
    let got : slice_get d.pending 0 ≡ Some here = subst (λ (e : List Entry). slice_get e 0 ≡ Some here) c.pending.ensures (slice_get_read entries (length entries) 0 here refl c.in-Some.ensures.item.3.0 c.in-Some.ensures.item.1) in
    let number : c.published.result + 1 ≡ suc (length d.history) + 0 = omega (arith, c.published.ensures.value) in
    pair_at_order d.history d.pending 0 here pair c.devices_agree.ensures.log.legal got (ap (λ (n : ℕ). pair_by n here) (sym number) ∙ is)
