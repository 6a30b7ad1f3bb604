use Rattle.std.proofs.Common.{◌≤◌, sym, subst, ap, ◌∙◌}
use Rattle.wp_judge.specs.declared.observed.Observed.{Observed}
use Rattle.wp_shared.specs.Seats.{SeatState}
use Rattle.wp_read.proofs.Decides.{first_of_word, first_bits, first_looked, second_of_word, second_bits, second_looked, has_first_word, has_first_max, looked, flag_next, look_decides, none_looked, reads_next, reads_then}
use Rattle.wp_read.proofs.deciding.look.Goals as goal

pub begin_reading-seen-requires-clause-seat : goal.begin_reading-seen-requires-clause-seat
begin_reading-seen-requires-clause-seat g c = c.requires.free.same_table

pub begin_reading-seen-requires-clause-cells : goal.begin_reading-seen-requires-clause-cells
begin_reading-seen-requires-clause-cells g c = sym c.bits-bits.ensures.1

pub begin_reading-seen-requires-clause-registered : goal.begin_reading-seen-requires-clause-registered
begin_reading-seen-requires-clause-registered g c = c.requires.registered

pub begin_reading-seen-requires-clause-version : goal.begin_reading-seen-requires-clause-version
begin_reading-seen-requires-clause-version g c = c.requires.version

pub ask-requires : goal.ask-requires
ask-requires g c = subst (λ (x : Observed). x.bits ≤ 16) (sym c.begin_reading-seen.ensures.nothing_loaded) c.bits-bits.ensures.0

pub returns-in-Answer : goal.returns-in-Answer
returns-in-Answer g c =
    let none = c.begin_reading-seen in
    look_decides c.args.store.now c.args.seat.now none.new.seat c.args.p c.args.snapshot.now none.result c.in-Answer.visible none.ensures.reads
    (none_looked c.bits-bits.result c.args.p c.args.snapshot.now none.result none.ensures.nothing_loaded) c.in-Answer.ensures

pub load-requires-clause-seat : goal.load-requires-clause-seat
load-requires-clause-seat g c = ap (λ (x : SeatState). x.table) c.begin_reading-seen.ensures.reads.seat ∙ c.requires.free.same_table

pub load-requires-clause-next : goal.load-requires-clause-next
load-requires-clause-next g c = reads_next c.begin_reading-seen.ensures.reads c.in-Load.word c.in-Load.ensures

pub load-requires-clause-word : goal.load-requires-clause-word
load-requires-clause-word g c =
    let none = c.begin_reading-seen in first_of_word c.bits-bits.result c.args.p c.args.snapshot.now c.in-Load.word none.result none.ensures.nothing_loaded c.in-Load.ensures

pub ask-requires-2 : goal.ask-requires-2
ask-requires-2 g c =
    let none = c.begin_reading-seen in let one = c.load.ensures in
    first_bits c.bits-bits.result c.args.p c.args.snapshot.now c.in-Load.word none.result none.ensures.nothing_loaded c.in-Load.ensures one.world c.load.new.seen one.is_loaded c.bits-bits.ensures.0

pub returns-in-Answer-ask : goal.returns-in-Answer-ask
returns-in-Answer-ask g c =
    let none = c.begin_reading-seen in let one = c.load.ensures in
    look_decides c.args.store.now c.args.seat.now c.load.new.seat c.args.p c.args.snapshot.now c.load.new.seen c.in-Answer-ask.visible (reads_then none.ensures.reads one.reads)
    (first_looked c.bits-bits.result c.args.p c.args.snapshot.now c.in-Load.word none.result none.ensures.nothing_loaded c.in-Load.ensures one.world c.load.new.seen one.is_loaded) c.in-Answer-ask.ensures

pub load-requires-in-Load-ask-clause-seat : goal.load-requires-in-Load-ask-clause-seat
load-requires-in-Load-ask-clause-seat g c =
    ap (λ (x : SeatState). x.table) (reads_then c.begin_reading-seen.ensures.reads c.load.ensures.reads).seat ∙ c.requires.free.same_table

pub load-requires-in-Load-ask-clause-next : goal.load-requires-in-Load-ask-clause-next
load-requires-in-Load-ask-clause-next g c = reads_next c.load.ensures.reads c.in-Load-ask.max c.in-Load-ask.ensures

pub load-requires-in-Load-ask-clause-word : goal.load-requires-in-Load-ask-clause-word
load-requires-in-Load-ask-clause-word g c =
    let none = c.begin_reading-seen in let one = c.load.ensures in
    second_of_word c.bits-bits.result c.args.p c.args.snapshot.now c.in-Load.word none.result none.ensures.nothing_loaded c.in-Load.ensures one.world c.load.new.seen one.is_loaded c.in-Load-ask.max c.in-Load-ask.ensures

pub ask-requires-3 : goal.ask-requires-3
ask-requires-3 g c =
    let none = c.begin_reading-seen in let one = c.load.ensures in let two = c.load-in-Load-ask.ensures in
    second_bits c.bits-bits.result c.args.p c.args.snapshot.now c.in-Load.word none.result none.ensures.nothing_loaded c.in-Load.ensures one.world c.load.new.seen one.is_loaded c.in-Load-ask.max c.in-Load-ask.ensures two.world c.load-in-Load-ask.new.seen two.is_loaded c.bits-bits.ensures.0

pub unwrap-requires : goal.unwrap-requires
unwrap-requires g c =
    let none = c.begin_reading-seen in let one = c.load.ensures in let two = c.load-in-Load-ask.ensures in
    has_first_word c.bits-bits.result c.args.p c.args.snapshot.now c.in-Load.word none.result none.ensures.nothing_loaded c.in-Load.ensures one.world c.load.new.seen one.is_loaded c.in-Load-ask.max c.in-Load-ask.ensures two.world c.load-in-Load-ask.new.seen two.is_loaded

pub unwrap-requires-in-Load-ask-2 : goal.unwrap-requires-in-Load-ask-2
unwrap-requires-in-Load-ask-2 g c =
    let none = c.begin_reading-seen in let one = c.load.ensures in let two = c.load-in-Load-ask.ensures in
    has_first_max c.bits-bits.result c.args.p c.args.snapshot.now c.in-Load.word none.result none.ensures.nothing_loaded c.in-Load.ensures one.world c.load.new.seen one.is_loaded c.in-Load-ask.max c.in-Load-ask.ensures two.world c.load-in-Load-ask.new.seen two.is_loaded

pub returns-in-Answer-ask-2 : goal.returns-in-Answer-ask-2
returns-in-Answer-ask-2 g c =
    let none = c.begin_reading-seen in let one = c.load.ensures in let two = c.load-in-Load-ask.ensures in
    look_decides c.args.store.now c.args.seat.now c.load-in-Load-ask.new.seat c.args.p c.args.snapshot.now c.load-in-Load-ask.new.seen c.in-Answer-ask-2.visible (reads_then (reads_then none.ensures.reads one.reads) two.reads)
    (second_looked c.bits-bits.result c.args.p c.args.snapshot.now c.in-Load.word none.result none.ensures.nothing_loaded c.in-Load.ensures one.world c.load.new.seen one.is_loaded c.in-Load-ask.max c.in-Load-ask.ensures two.world c.load-in-Load-ask.new.seen two.is_loaded) c.in-Answer-ask-2.ensures

pub returns-in-Load-ask-2 : goal.returns-in-Load-ask-2
returns-in-Load-ask-2 g c =
    let none = c.begin_reading-seen in let one = c.load.ensures in let two = c.load-in-Load-ask.ensures in (
      c.load-in-Load-ask.new.seen,
      reads_then (reads_then none.ensures.reads one.reads) two.reads,
      looked c.bits-bits.result c.args.p c.args.snapshot.now c.in-Load.word none.result none.ensures.nothing_loaded c.in-Load.ensures one.world c.load.new.seen one.is_loaded c.in-Load-ask.max c.in-Load-ask.ensures two.world c.load-in-Load-ask.new.seen two.is_loaded c.unwrap.result c.unwrap-in-Load-ask-2.result c.unwrap.ensures c.unwrap-in-Load-ask-2.ensures,
      flag_next c.bits-bits.result c.args.p c.args.snapshot.now c.in-Load.word none.result none.ensures.nothing_loaded c.in-Load.ensures one.world c.load.new.seen one.is_loaded c.in-Load-ask.max c.in-Load-ask.ensures two.world c.load-in-Load-ask.new.seen two.is_loaded c.in-Load-ask-2.field-0 c.in-Load-ask-2.ensures,
    )
