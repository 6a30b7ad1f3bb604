use Rattle.std.proofs.Common.{◌++◌, ℕ, List, ap, ◌∙◌}
use Rattle.std.specs.Int.{w64, to_be_bytes}
use Rattle.std.specs.List.{flat_map}
use Rattle.wp_model.specs.declared.carried.Carried.{Carried}
use Rattle.wp_entry.specs.Base.{Base, carried_bytes}
use Rattle.wp_entry.proofs.BaseGrammar.{base_pushed}
use Rattle.wp_entry.proofs.base.push_base.Goals as goal

pub returns-clause-pushed : goal.returns-clause-pushed
returns-clause-pushed c =
    let base : Base = record { number = c.base.inside.number; carried = c.base.inside.carried.items } in
    let length_is = c.len.ensures ∙ c.base.inside.carried.ok.0 in
    let count = c.in_ok-push_u64-2.ensures.pushed ∙ ap (λ (n : ℕ). c.push_u64.new.out.items ++ to_be_bytes w64 n) length_is in
    let all = c.in_ok-push_all.ensures.pushed ∙ ap (λ (carried : List Carried). c.push_u64-2.new.out.items ++ flat_map carried_bytes carried) c.deref.ensures.value in
    rw (← c.base.view_is) (base_pushed c.args.out.now.items c.push_u64.new.out.items c.push_u64-2.new.out.items c.push_all.new.out.items base c.in_ok-push_u64.ensures.pushed count all)
