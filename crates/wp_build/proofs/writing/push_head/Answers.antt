use Rattle.std.proofs.Common.{ℕ, ◌++◌, Result, Ok, Err, OnOk, ap, ◌∙◌}
use Rattle.std.specs.Int.{w64, to_be_bytes}
use Rattle.wp_fields.specs.declared.format.Format.TheVariants.{Two}
use Rattle.wp_build.proofs.Spelled.{head_pushed}
use Rattle.wp_build.proofs.writing.push_head.Goals as goal

on_ok : {X E P Q : Type 0} (result : Result X E) → OnOk result P → (P → Q) → OnOk result Q
on_ok (Ok x) p more = more p
on_ok (Err e) p more = p

pub returns : goal.returns
returns c = on_ok c.push_u64-2.result c.push_u64-2.ensures.pushed (λ last.
    head_pushed Two c.args.id c.args.count c.args.out.now.items c.push_piece.new.out.items c.push_u8.new.out.items c.push_u32.new.out.items c.push_u64.new.out.items c.push_u64-2.new.out.items c.in_ok-push_piece.ensures.pushed (rw c.byte.ensures at c.in_ok-push_u8.ensures.pushed) c.in_ok-push_u32.ensures.pushed c.in_ok-push_u64.ensures.pushed (last ∙ ap (λ (n : ℕ). c.push_u64.new.out.items ++ to_be_bytes w64 n) c.blocks_for.ensures))
