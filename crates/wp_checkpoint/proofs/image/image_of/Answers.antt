use Rattle.std.proofs.Common.{◌≤◌, length, sym, subst, arith}
use Rattle.wp_entry.specs.Base.{AscendUpTo, Base}
use Rattle.wp_manifest.specs.Edit.{Edit}
use Rattle.wp_checkpoint.proofs.Images.{few_tables, image_made, made_low, made_numbered}
use Rattle.wp_checkpoint.proofs.Opening.{ascend_up}
use Rattle.wp_checkpoint.proofs.image.image_of.Goals as goal

pub table_of-requires : goal.table_of-requires
table_of-requires g c = made_numbered c.args.at c.args.carried.now _ _ c.requires.cut.numbered c.requires.rows c.in_ok-versions.versions c.in_ok-versions.ensures.made (let few = c.requires.cut.few in omega (arith, few))

pub of-requires-clause-ascend : goal.of-requires-clause-ascend
of-requires-clause-ascend g c =
    subst (λ (base : Base). AscendUpTo base.number 0 base.carried) (sym c.in_ok-base_of.ensures) (ascend_up c.args.at c.args.carried.now c.requires.cut.numbered)

pub whole-requires-clause-count : goal.whole-requires-clause-count
whole-requires-clause-count g c =
    let low = made_low c.args.at c.args.carried.now _ _ c.requires.cut.numbered c.requires.rows c.in_ok-versions.versions c.in_ok-versions.ensures.made in
    subst (λ (edit : Edit). length edit.tables ≤ edit.flushed) (sym c.in_ok-edit_of.ensures) (few_tables c.args.id c.args.at c.in_ok-versions.versions c.in_ok-table.table c.in_ok-table.ensures low)

pub returns-clause-image : goal.returns-clause-image
returns-clause-image g c =
    image_made c.args.id c.args.at c.args.carried.now _ _ c.in_ok-versions.versions c.in_ok-base_of.field-0 c.in_ok-edit_of.field-0 _ c.in_ok-versions.ensures.made
    (λ i. record { at = c.args.at; versions = length (c.as_slice.ensures.value i); carried = length c.args.carried.now })
    c.in_ok-table.ensures c.in_ok-base_of.ensures c.in_ok-log.ensures.base c.in_ok-log.ensures.whole c.in_ok-edit_of.ensures c.in_ok-manifest.ensures.edit c.in_ok-manifest.ensures.whole
