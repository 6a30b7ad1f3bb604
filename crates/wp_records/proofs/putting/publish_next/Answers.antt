use Rattle.std.proofs.Common.{◌≡◌, suc, ◌+◌, [], ◌∷◌, inl, length, refl, sym, subst, ap, ◌∙◌, List, arith}
use Rattle.wp_model.specs.declared.entry.Entry.{Entry}
use Rattle.wp_core.specs.Entries.{pending_pair}
use Rattle.wp_core.specs.Lists.{IsIn}
use Rattle.wp_core.specs.States.{writes}
use Rattle.wp_parts.specs.Log.{LogState}
use Rattle.wp_shared.specs.Seats.{SeatState, place_at}
use Rattle.wp_commits.specs.Ways.{way_of}
use Rattle.wp_commits.proofs.Ways.{enters_reached}
use Rattle.wp_records.proofs.Joined.{split, first_ready, next_still, entered_in_place, joined, others_join}
use Rattle.wp_records.specs.Stages.{IsPublished}
use Rattle.wp_records.proofs.Made.{may_publish, published}
use Rattle.wp_records.proofs.putting.publish_next.Goals as goal

pub enter-requires-clause-words : goal.enter-requires-clause-words
enter-requires-clause-words g c = let w = c.requires.holds.words in (w.bound, w.words, w.noted)

pub enter-requires-clause-ready : goal.enter-requires-clause-ready
enter-requires-clause-ready g c = first_ready c.args.seat.now.knows c.args.store.now.cells c.args.log.now.state.history c.args.log.now.state.pending c.requires.may.pairs

pub publish-requires-clause-logged : goal.publish-requires-clause-logged
publish-requires-clause-logged g c = c.requires.may.logged

pub store_published-requires : goal.store_published-requires
store_published-requires g c =
    let z = c.args.store.now in let s = c.args.seat.now in let t = c.enter.new.seat in let log = c.args.log.now in let w = c.requires.holds.words in
    let k = split log.state.pending c.requires.some in
    let noted = c.enter.ensures.words w.bound w.words w.noted in
    let held : t.knows.held ≡ writes log.state ∷ [] = ap (λ (x : SeatState). x.knows.held) c.enter.ensures.seat.same ∙ c.requires.holds.turn.held in
    let v = c.published-n.ensures.value in let number : c.published-n.result + 1 ≡ suc (length log.state.history) = omega (arith, v) in
    record {
      seat = ap (λ (x : SeatState). x.table) c.enter.ensures.seat.same ∙ c.requires.holds.turn.same_table;
      next = record {
        state = log.state;
        entry = k.0;
        others = k.1;
        held = subst (IsIn (writes log.state)) (sym held) (inl refl);
        pending = k.2;
        number_is = number;
        may = may_publish (place_at z t.by) t.knows log.state k.0 k.1 held
            (next_still z s t t log log k.0 k.1 c.requires.holds k.2 c.requires.may c.enter.ensures.seat c.requires.versions)
            (entered_in_place z s t t log log k.0 k.1 c.requires.holds k.2 c.requires.may c.enter.ensures.seat w.bound w.words noted (c.enter.ensures.there _ _ noted));
      };
    }

pub returns : goal.returns
returns g c =
    let z = c.args.store.now in let s = c.args.seat.now in let t = c.enter.new.seat in let log = c.args.log.now in let w = c.requires.holds.words in
    let k = split log.state.pending c.requires.some in
    let noted = c.enter.ensures.words w.bound w.words w.noted in
    let left = c.publish.new.self in let u = c.store_published.new.seat in
    let held : t.knows.held ≡ writes log.state ∷ [] = ap (λ (x : SeatState). x.knows.held) c.enter.ensures.seat.same ∙ c.requires.holds.turn.held in
    let gone : (entry : Entry) (others : List Entry) → log.state.pending ≡ entry ∷ others → IsPublished t log entry others u left =
    λ entry others pending. record {
      seat = published (place_at z t.by) _ t u c.store_published.ensures.same log.state left.state entry others held (ap (λ (x : LogState). x.state) (c.publish.ensures entry others pending))
          (c.store_published.ensures.published log.state entry others (subst (IsIn (writes log.state)) (sym held) (inl refl)) pending);
      log_is = c.publish.ensures entry others pending;
    } in
    let rest = others_join z s t u log left k.0 k.1 c.requires.holds k.2 c.requires.may c.enter.ensures.seat (gone k.0 k.1 k.2) c.enter.ensures.elsewhere
    (enters_reached s.knows t.knows z.cells (length log.state.history) (way_of z.cells (pending_pair log.state.history log.state.pending)) c.enter.ensures.words) _ _ noted (c.enter.ensures.there _ _ noted) in
    record {
      joined = λ entry others pending. joined z s t u log left entry others c.requires.holds pending c.requires.may c.enter.ensures.seat (gone entry others pending) c.enter.ensures.words;
      may = rest.0;
      behind = rest.1;
    }
