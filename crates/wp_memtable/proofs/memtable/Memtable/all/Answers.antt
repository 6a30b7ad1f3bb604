use Rattle.std.proofs.Common.{◌≡◌, List, ◌∙◌}
use Rattle.std.proofs.lemmas.Result.{IfOk-weaker}
use Rattle.wp_model.specs.declared.version.Version.{Version}
use Rattle.wp_memtable.specs.Bounds.{is_between}
use Rattle.wp_memtable.proofs.Between.{filter_all}
use Rattle.wp_memtable.proofs.memtable.Memtable.all.Goals as goal

pub returns-clause-all : goal.returns-clause-all
returns-clause-all c =
    IfOk-weaker c.all_between.result _ (λ (versions : List Version). versions ≡ c.args.self.now) (λ versions is. is ∙ filter_all (is_between c.none.result) c.args.self.now c.none.ensures) c.all_between.ensures.all
