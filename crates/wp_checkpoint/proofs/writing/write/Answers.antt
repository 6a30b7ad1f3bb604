use Rattle.std.proofs.Common.{◌∷◌, []}
use Rattle.wp_manifest.specs.Edit.{edit_bytes}
use Rattle.wp_manifest.specs.Spelling.{MAGIC, head_stamp}
use Rattle.wp_checkpoint.specs.Image.{edit_of}
use Rattle.wp_checkpoint.proofs.Amid.{with_manifest}
use Rattle.wp_checkpoint.proofs.Writes.{one_edit}
use Rattle.wp_checkpoint.proofs.writing.write.Goals as goal

pub returns-in-Err-make_whole-clause-amid : goal.returns-in-Err-make_whole-clause-amid
returns-in-Err-make_whole-clause-amid g c = λ id at carried log manifest.
    let image = c.args.image.now in
    with_manifest id at carried _ _ image.log log (c.make.ensures.passed id log.is log.whole) image.table image.manifest manifest (λ empty. c.in_default-make.ensures.left id log.is log.whole empty.log)
    (c.make_whole.ensures.passed MAGIC (head_stamp id) (edit_bytes (edit_of at image.table) ∷ []) manifest.whole)

pub returns-clause-written : goal.returns-clause-written
returns-clause-written g c = λ id at carried log manifest empty.
    let image = c.args.image.now in
    record {
      tables = c.in_default.ensures.written empty.tables;
      log = c.in_default-make.ensures.left id log.is log.whole empty.log;
      manifest = λ bytes left.
          one_edit id at image.table image.manifest bytes manifest (c.in_default-make_whole.ensures.spelled MAGIC (head_stamp id) (edit_bytes (edit_of at image.table) ∷ []) manifest.whole empty.manifest bytes left);
    }

pub returns-clause-amid : goal.returns-clause-amid
returns-clause-amid g c = λ id at carried log manifest.
    let image = c.args.image.now in
    with_manifest id at carried _ _ image.log log (c.make.ensures.passed id log.is log.whole) image.table image.manifest manifest (λ empty. c.in_default-make.ensures.left id log.is log.whole empty.log)
    (c.make_whole.ensures.passed MAGIC (head_stamp id) (edit_bytes (edit_of at image.table) ∷ []) manifest.whole)
