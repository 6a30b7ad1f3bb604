use Rattle.std.proofs.Common.{arith}
use Rattle.wp_checkpoint.proofs.Amid.{before_log}
use Rattle.wp_checkpoint.proofs.Images.{is_copy, none_written}
use Rattle.wp_checkpoint.proofs.copying.copy.Goals as goal

pub returns-in_err-look-clause-amid : goal.returns-in_err-look-clause-amid
returns-in_err-look-clause-amid g c = before_log c.args.id c.args.at c.args.carried.now _ _ c.look.ensures.stay.log c.look.ensures.stay.manifest

pub returns-clause-made : goal.returns-clause-made
returns-clause-made g c =
    let empty = c.in_ok-look.ensures.empty in
    let image = c.in_ok-image.ensures.image in
    let same = c.in_ok-look.ensures.unfailed in
    let written = rw same at c.in_ok-write.ensures.written c.args.id c.args.at c.args.carried.now image.log image.manifest in
    record {
      empty = empty;
      copy = is_copy c.args.at c.args.carried.now _ _ c.requires.cut.numbered c.requires.rows c.args.id c.in_ok-image.image _ _ (let few = c.requires.cut.few in omega (arith, few)) c.requires.cut.apart c.ranges.id.fits image (written empty);
      unfailed = rw same at c.in_ok-write.ensures.unfailed;
      untabled = none_written c.args.at c.args.carried.now _ _ c.requires.cut.numbered c.requires.rows c.args.id c.in_ok-image.image _ _ image (written empty);
    }
