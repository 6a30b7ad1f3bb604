-- What the values of one store are, of equal lists.
use Rattle.std.proofs.Common.{◌≡◌, List, sym, subst}
use Rattle.wp_model.specs.declared.entry.Entry.{Entry}
use Rattle.wp_parts.specs.declared.turn_value.TurnValue.{TurnValue}
use Rattle.wp_shared.specs.Opening.{IsOneStore}

pub same_store : {D : Type 0} (opened history : List Entry) (first slots : List (TurnValue D)) → opened ≡ history → first ≡ slots → IsOneStore history slots → IsOneStore opened first
same_store {D} opened history first slots same_history same one = subst (λ (x : List Entry × List (TurnValue D)). IsOneStore x.0 x.1) (λ i. (sym same_history i, sym same i)) one
