use Rattle.std.proofs.Common.{◌≡◌, ◌<◌, ◌*◌, true, length, drop, subst, sym, ap, ◌∙◌, arith}
use Rattle.std.specs.Arc.{arc_value}
use Rattle.std.specs.List.{list_all}
use Rattle.wp_model.specs.Versions.{AreInOrder}
use Rattle.wp_table.specs.declared.layout.TheConstants.{BLOCK}
use Rattle.wp_table.specs.Table.{block_count, has_words}
use Rattle.wp_table.proofs.WalkLemmas.{has_head, block_listed, block_before, has_block, indexed_in_order, indexed_in_range}
use Rattle.wp_table.proofs.table.Table.from_block.Goals as goal

pub index-requires : goal.index-requires
index-requires c =
    let within = subst (λ vs. c.args.block < block_count (length vs)) (sym c.self.view_is) c.requires in
    omega (arith, block_listed c.self.inside.format (arc_value c.self.inside.bytes).items c.self.inside.count c.self.inside.index.items c.args.block c.self.invariant within, c.self.inside.index.ok.0)

pub overflow_mul-block : goal.overflow_mul-block
overflow_mul-block c =
    let within = subst (λ vs. c.args.block < block_count (length vs)) (sym c.self.view_is) c.requires in
    let bytes = (arc_value c.self.inside.bytes).items in let count = c.self.inside.count in let places = c.self.inside.index.items in
    record { fits = omega (arith, block_before c.self.inside.format bytes count places c.args.block c.self.invariant within, (has_head c.self.inside.format bytes count places c.self.invariant).1) }

pub overflow_sub-self-inside : goal.overflow_sub-self-inside
overflow_sub-self-inside c =
    let within = subst (λ vs. c.args.block < block_count (length vs)) (sym c.self.view_is) c.requires in
    block_before c.self.inside.format (arc_value c.self.inside.bytes).items c.self.inside.count c.self.inside.index.items c.args.block c.self.invariant within

pub at-requires : goal.at-requires
at-requires c =
    let within = subst (λ vs. c.args.block < block_count (length vs)) (sym c.self.view_is) c.requires in
    let block = has_block c.self.inside.format (arc_value c.self.inside.bytes).items c.self.inside.count c.self.inside.index.items c.args.block c.index.result.now c.self.invariant within c.index.ensures in
    rw (c.deref-2.ensures.value, c.deref.ensures) block.within

pub returns-clause-versions : goal.returns-clause-versions
returns-clause-versions c =
    let within = subst (λ vs. c.args.block < block_count (length vs)) (sym c.self.view_is) c.requires in
    let block = has_block c.self.inside.format (arc_value c.self.inside.bytes).items c.self.inside.count c.self.inside.index.items c.args.block c.index.result.now c.self.invariant within c.index.ensures in
    (rw (c.deref-2.ensures.value, c.deref.ensures) at c.at.ensures) ∙ block.versions ∙ ap (drop (c.args.block * BLOCK)) c.self.view_is

pub returns-clause-in_range : goal.returns-clause-in_range
returns-clause-in_range c =
    subst (λ vs. list_all has_words vs ≡ true) c.self.view_is (indexed_in_range c.self.inside.format (arc_value c.self.inside.bytes).items c.self.inside.count c.self.inside.index.items c.self.invariant)

pub returns-clause-in_order : goal.returns-clause-in_order
returns-clause-in_order c = subst AreInOrder c.self.view_is (indexed_in_order c.self.inside.format (arc_value c.self.inside.bytes).items c.self.inside.count c.self.inside.index.items c.self.invariant)
