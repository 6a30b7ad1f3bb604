use Rattle.std.proofs.Common.{◌≡◌, List, length, ℕ, true, rules, subst, sym, ap, ◌∙◌}
use Rattle.wp_core.specs.World.{Actor, new_actor}
use Rattle.wp_rule.specs.declared.opening.Opening.{Opening}
use Rattle.wp_rule.specs.Shows.{Founds}
use Rattle.wp_rule.specs.Words.{first_edit_of, shared_words, place_of, SawAll}
use Rattle.wp_rule.proofs.Founds.{founds, opening_seen}
use Rattle.wp_rule.proofs.words.Words.new.Goals as goal

pub new-requires : goal.new-requires
new-requires g c =
    let client : c.of.result.value ≡ c.args.client.now = c.of.ensures in let first : c.of-2.result.value.items ≡ c.args.slots.items = ap (λ v. v.items) c.of-2.ensures in
    founds g.S.HoldsPart.content (g.S.HoldsPart.tells c.of-2.result.value.items) c.of.result.value c.args.entries.value.entries c.args.cells c.args.delayed_flag c.args.slots.items c.of-2.result.value.items _
    (subst (λ (z : List ℕ × List _). Founds g.S.HoldsPart.content (g.S.HoldsPart.tells z.1) z.0 c.args.entries.value.entries c.args.cells c.args.delayed_flag c.args.slots.items) (λ i. (sym client i, sym first i)) c.requires.parts)
    first
    (search rules)

pub returns-in-Ok-new-clause-stands : goal.returns-in-Ok-new-clause-stands
returns-in-Ok-new-clause-stands g c =
    let made = c.in-Ok-new.ensures.ok in let first : c.of-2.result.value.items ≡ c.args.slots.items = ap (λ v. v.items) c.of-2.ensures in
    let seat : c.in-Ok-new.seat.me.0 ≡ new_actor true c.args.client.now c.args.entries.value.entries = ap (λ m. m.0) made.4 ∙ ap (λ n. new_actor true n c.args.entries.value.entries) c.of.ensures in
    subst (λ (z : (Opening _ × Actor) × ℕ). SawAll (place_of g.S.HoldsPart.content (shared_words c.in-Ok-new.seat.table_id z.0.0) 0) z.0.1 z.1) (λ i. ((sym made.5 i, sym seat i), sym c.requires.published i))
    (subst (λ (slots : List _). SawAll (record { opened = c.args.entries.value.entries; cells = c.args.cells; first_edit = first_edit_of g.S.HoldsPart.content slots; by = 0 }) (new_actor true c.args.client.now c.args.entries.value.entries) (length c.args.entries.value.entries)) (sym first)
    (opening_seen g.S.HoldsPart.content (g.S.HoldsPart.tells _) c.args.client.now c.args.entries.value.entries c.args.cells c.args.delayed_flag c.args.slots.items c.requires.parts))
