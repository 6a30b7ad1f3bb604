use Rattle.std.proofs.Common.{Bool, not, ap, ◌∙◌}
use Rattle.std.specs.Int.{from_bool}
use Rattle.wp_core.specs.Views.{old_flag_stays}
use Rattle.wp_shared.specs.Seats.{place_at}
use Rattle.wp_commits.proofs.Flags.{Says, delayed_flag_kept, flag_tells, put_old, may_put_old}
use Rattle.wp_commits.proofs.steps.fit_old_flag.Goals as goal

pub store_old_flag-requires-clause-may : goal.store_old_flag-requires-clause-may
store_old_flag-requires-clause-may g c = let h = c.requires.held in let none = c.none_kept-none in
    let says : Says none.result c.from.result = record { up = λ e. c.from.ensures ∙ ap (λ (b : Bool). from_bool (not b)) e; down = λ e. c.from.ensures ∙ ap (λ (b : Bool). from_bool (not b)) e } in
    may_put_old (place_at c.args.store.now c.args.seat.now.by) c.args.seat.now.knows none.result c.from.result says (record { state = h.state; held = h.held; so_is = λ e. h.so_is (none.ensures.0 e) })

pub returns : goal.returns
returns g c = let s = c.args.seat.now in let t = c.store_old_flag in let p = place_at c.args.store.now s.by in let none = c.none_kept-none in
    let says : Says none.result c.from.result = record { up = λ e. c.from.ensures ∙ ap (λ (b : Bool). from_bool (not b)) e; down = λ e. c.from.ensures ∙ ap (λ (b : Bool). from_bool (not b)) e } in
    let k = put_old p _ s t.new.seat c.from.result t.ensures.same t.ensures.moved in
    let f = flag_tells t.new.seat.knows old_flag_stays none.result c.from.result k.1 says in
    record {
      seat = k.0;
      flag = record { value = f.value; noted = f.noted; empty = λ e. none.ensures.0 (f.empty e); down = λ e. f.down (none.ensures.1 e) };
      other = delayed_flag_kept p _ s t.new.seat c.from.result t.ensures.moved;
    }
