use Rattle.std.proofs.Common.{◌≡◌, ◌≤◌, ◌<◌, true, List, length, sym, subst, ap, ◌∙◌}
use Rattle.std.specs.List.{list_all}
use Rattle.wp_model.specs.declared.version.Version.{Version}
use Rattle.wp_merge.proofs.Sorted.{merged_is_sorted}
use Rattle.wp_table.specs.Table.{is_flushed, is_numbered}
use Rattle.wp_tableset.specs.Changes.{Asked}
use Rattle.wp_tableset.specs.declared.gone.Gone.TheVariants as gone
use Rattle.wp_maint.proofs.frozen.make_ready.Goals as goal

pub ready-requires-clause-numbered : goal.ready-requires-clause-numbered
ready-requires-clause-numbered g c =
    let f = c.args.frozen in let are = merged_is_sorted f.parts c.in_ok-versions.versions c.in_ok-versions.ensures in
    subst (λ (l : List Version). list_all is_numbered l ≡ true) (sym are) c.requires.1.numbered

pub ready-requires-clause-flushed : goal.ready-requires-clause-flushed
ready-requires-clause-flushed g c =
    let f = c.args.frozen in let are = merged_is_sorted f.parts c.in_ok-versions.versions c.in_ok-versions.ensures in
    subst (λ (l : List Version). list_all (is_flushed f.at) l ≡ true) (sym are) c.requires.1.flushed

pub ready-requires-clause-later : goal.ready-requires-clause-later
ready-requires-clause-later g c =
    let f = c.args.frozen in let are = merged_is_sorted f.parts c.in_ok-versions.versions c.in_ok-versions.ensures in let k = c.requires.1 in
    (k.later.0, λ frozen. subst (λ (l : List Version). 1 ≤ length l → c.args.edits.now.state.last.flushed < f.at) (sym are) k.later.1)

pub returns : goal.returns
returns g c a k =
    let f = c.args.frozen in let are = merged_is_sorted f.parts c.in_ok-versions.versions c.in_ok-versions.ensures in record {
      frozen = k;
      asked = c.in_ok-edit.ensures.asked ∙ ap (λ (l : List Version). let x : Asked = record { gone = gone.Frozen; versions = l; flushed = f.at } in x) are;
      ready = c.in_ok-edit.ensures.ready;
      count = ap (λ (l : List Version). length l) (c.as_slice.ensures.value ∙ are);
    }
