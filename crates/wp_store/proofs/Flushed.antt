-- What is left of parts, of whose versions those up to a number were taken out.
use Rattle.std.proofs.Common.{◌≡◌, ℕ, nat_lt, Bool, cond, List, [], ◌∷◌, length, ◌∙◌, subst}
use Rattle.std.specs.List.Retain.{RetainsInTurn}
use Rattle.wp_model.specs.declared.version.Version.{Version}
use Rattle.wp_memtable.specs.Memtable.{above}
use Rattle.wp_store.specs.Store.{parts_above}

pub parts_left : {F : Type 0} (R : F → List Version → Bool → F → List Version → Type 0) (n : ℕ) (f : F) → ((part : List Version) (b : Bool) (g : F) (left : List Version) → R f part b g left → (g ≡ f) × (b ≡ nat_lt 0 (length left)) × (left ≡ above n part)) → (parts left : List (List Version)) → RetainsInTurn R f parts left → left ≡ parts_above n parts
parts_left R n f says [] left h = h
parts_left R n f says (part ∷ parts) left (b, g, first, called, zs, others, is) =
    let said = says part b g first called in
    let rest = parts_left R n f says parts zs (subst (λ x. RetainsInTurn R x parts zs) said.0 others) in
    let kept : b ≡ nat_lt 0 (length (above n part)) = said.1 ∙ (λ i. nat_lt 0 (length (said.2 i))) in
    is ∙ (λ i. cond (kept i) (said.2 i ∷ rest i) (rest i))
