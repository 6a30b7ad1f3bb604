use Rattle.std.proofs.Common.{◌≡◌, ◌∷◌, length, ap, sym, ◌∙◌, arith}
use Rattle.wp_gatelog.proofs.ScanLemmas.{next_none, next_lacks, next_short, next_whole}
use Rattle.wp_gatelog.proofs.scan.next_in.Goals as goal

pub returns-in_default : goal.returns-in_default
returns-in_default c = next_none c.args.bytes.now (omega (arith, ap length c.of-fields.ensures, c.in_default.ensures.taken.0))

pub returns-in_default-u64 : goal.returns-in_default-u64
returns-in_default-u64 c =
    let is : c.args.bytes.now ≡ c.in-Some.gate ∷ c.u8.new.self = sym c.of-fields.ensures ∙ c.in-Some.ensures.spelling in
    next_lacks c.args.bytes.now c.u8.new.self c.in-Some.gate c.if-gate-eq-CLOSED.false is c.in_default-u64.ensures.taken.0

pub returns-then-left-len : goal.returns-then-left-len
returns-then-left-len c =
    let is : c.args.bytes.now ≡ c.in-Some.gate ∷ c.u8.new.self = sym c.of-fields.ensures ∙ c.in-Some.ensures.spelling in
    next_short c.args.bytes.now c.u8.new.self c.in-Some.gate c.if-gate-eq-CLOSED.false is c.in-Some-u64.len c.u64.new.self c.in-Some-u64.ensures.spelling (omega arith) (omega arith)

pub returns : goal.returns
returns c =
    let is : c.args.bytes.now ≡ c.in-Some.gate ∷ c.u8.new.self = sym c.of-fields.ensures ∙ c.in-Some.ensures.spelling in
    next_whole c.args.bytes.now c.u8.new.self c.in-Some.gate c.if-gate-eq-CLOSED.false is c.in-Some-u64.len c.u64.new.self c.in-Some-u64.ensures.spelling (omega arith) (omega arith)
