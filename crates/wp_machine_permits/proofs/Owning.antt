-- Whether there is something.
use Rattle.std.proofs.Common.{◌≡◌, true, Option, Some, None, is_some, Bor, List, [], ◌∷◌, refl, sym}
use Rattle.std.specs.Option.{option_copied}
use Rattle.std.specs.Prelude.{slice_get}
use Rattle.wp_model.specs.declared.entry.Entry.{Entry}
use Rattle.wp_core.specs.Entries.{next_of}

pub some_copied : {X : Type 0} (o : Option (Bor X)) (g : Option X) → option_copied o ≡ g → is_some o ≡ true → (x : X) × (g ≡ Some x)
some_copied (Some r) g e is = (r.now, sym e)
some_copied None g e is = absurd cc

pub copied_some : {X : Type 0} (o : Option (Bor X)) (g : Option X) → option_copied o ≡ g → ((x : X) × (g ≡ Some x)) → is_some o ≡ true
copied_some (Some r) g e has = refl
copied_some None g e has = let is = has.1 in absurd cc

-- the first of a list is the next
pub first_next : (entries : List Entry) → slice_get entries 0 ≡ next_of entries
first_next [] = refl
first_next (entry ∷ others) = refl
