use Rattle.std.proofs.Common.{arith, refl, sym, ap, ◌∙◌, ◌+◌, length}
use Rattle.std.proofs.lemmas.Result.{err_from_is_err_and}
use Rattle.std.proofs.lemmas.Grind.{common_steps}
use Rattle.std.specs.BTreeMap.Entry.{map_with_value}
use Rattle.wp_memtable.proofs.Listed.{had_before, put_found, put_length, put_ordered, put_same, version_at-put}
use Rattle.wp_memtable.proofs.places.put_one.Goals as goal

pub returns-in_err-reserve-clause-well_ordered : goal.returns-in_err-reserve-clause-well_ordered
returns-in_err-reserve-clause-well_ordered c =
    let w = c.reserve.new.self in
    let is = rw c.in_ok-copy.ensures at c.in_ok-places.ensures.update.1 w in
    put_ordered c.args.places.now.entries _ (map_with_value c.in_ok-places.field-0 w).entries c.args.key.now w (grind (arith, common_steps)) is c.requires c.bytes.ensures.in_range (c.in_ok-places.ensures.update.2 w) c.reserve.ensures.newest_first

pub returns-in_err-reserve-clause-err : goal.returns-in_err-reserve-clause-err
returns-in_err-reserve-clause-err c =
    let w = c.reserve.new.self in
    let is = rw c.in_ok-copy.ensures at c.in_ok-places.ensures.update.1 w in
    let had = had_before c.args.places.now.entries c.args.key.now _ _ c.new.result c.or_insert-versions.result.now c.in_ok-copy.ensures c.in_ok-places.ensures.value c.new.ensures.versions c.or_insert-versions.ensures.value in
    let there = (map_with_value c.in_ok-places.field-0 w).entries in
    let p = err_from_is_err_and c.from_residual-in_err-reserve.result c.from_residual-in_err-reserve.ensures.1 in
    rw p.1 (grind (arith, common_steps, put_same c.args.places.now.entries there there c.args.key.now w refl is c.requires (c.reserve.ensures.same_versions ∙ sym had)))

pub returns-clause-well_ordered : goal.returns-clause-well_ordered
returns-clause-well_ordered c =
    let w = c.put.new.self in
    let is = rw c.in_ok-copy.ensures at c.in_ok-places.ensures.update.1 w in
    put_ordered c.args.places.now.entries _ (map_with_value c.in_ok-places.field-0 w).entries c.args.key.now w (grind (arith, common_steps)) is c.requires c.bytes.ensures.in_range (c.in_ok-places.ensures.update.2 w) c.put.ensures.newest_first

pub returns-clause-count : goal.returns-clause-count
returns-clause-count c =
    let w = c.put.new.self in
    let is = rw c.in_ok-copy.ensures at c.in_ok-places.ensures.update.1 w in
    let had = had_before c.args.places.now.entries c.args.key.now _ _ c.new.result c.or_insert-versions.result.now c.in_ok-copy.ensures c.in_ok-places.ensures.value c.new.ensures.versions c.or_insert-versions.ensures.value in
    let there = (map_with_value c.in_ok-places.field-0 w).entries in
    grind (arith, common_steps, put_length c.args.places.now.entries there there c.args.key.now w refl is c.requires c.put.result (c.put.ensures.count ∙ ap (λ vs. length vs + c.put.result) (c.reserve.ensures.same_versions ∙ sym had)))

pub returns-clause-each : goal.returns-clause-each
returns-clause-each c =
    let w = c.put.new.self in
    let is = rw c.in_ok-copy.ensures at c.in_ok-places.ensures.update.1 w in
    let had = had_before c.args.places.now.entries c.args.key.now _ _ c.new.result c.or_insert-versions.result.now c.in_ok-copy.ensures c.in_ok-places.ensures.value c.new.ensures.versions c.or_insert-versions.ensures.value ∙ sym c.reserve.ensures.same_versions in
    version_at-put c.args.key.now c.args.n _ c.args.places.now.entries _ c.reserve.new.self.versions w c.requires (returns-clause-well_ordered c) had (rw c.in_ok-value.ensures at c.put.ensures.each)
    (put_found c.args.places.now.entries _ (map_with_value c.in_ok-places.field-0 w).entries c.args.key.now w (grind (arith, common_steps)) is c.requires (rw c.in_ok-copy.ensures at (c.in_ok-places.ensures.update.0 w).0))
