use Rattle.wp_history_laws.proofs.Prior.{put_restores, del_restores}
use Rattle.wp_history.proofs.outline.Outline.restores.Goals as goal

pub returns-then-eq : goal.returns-then-eq
returns-then-eq c = put_restores c.args.self.now.entries c.args.key.now _ _ _ _ _ _ c.in-Put-Some.ensures c.in-Put-Some.is-0 c.if-eq.ensures c.eq-then-eq.ensures

pub returns-in-Del-None : goal.returns-in-Del-None
returns-in-Del-None c = del_restores c.args.self.now.entries c.args.key.now _ _ _ _ c.in-Del-None.ensures c.in-Del-None.is-0 c.eq-in-Del-None.ensures
