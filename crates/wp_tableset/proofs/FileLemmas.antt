-- Tables in bytes stay there as bytes come behind them, and as more entries are flushed.
use Rattle.std.proofs.Common.{◌≡◌, ℕ, ◌≤◌, Bool, true, List, [], ◌∷◌, ◌++◌, length, refl, sym, ◌∙◌, ap, subst, arith}
use Rattle.std.proofs.lemmas.List.{append_assoc, append-nil}
use Rattle.std.specs.List.{list_all}
use Rattle.wp_model.specs.declared.version.Version.{Version}
use Rattle.wp_table.specs.File.{HasTable, HasTables}
use Rattle.wp_table.specs.Table.{SpellsTable, is_version}
use Rattle.wp_tableset.specs.Device.{BeginsWith}

-- ---- more entries are flushed

list_all_from : {X : Type 0} (p q : X → Bool) → ((x : X) → p x ≡ true → q x ≡ true) → (xs : List X) → list_all p xs ≡ true → list_all q xs ≡ true
list_all_from p q f [] all = refl
list_all_from p q f (x ∷ xs) all = grind (arith, f x, list_all_from p q f xs)

spelled_on : (id flushed later : ℕ) (versions : List Version) (bytes : List ℕ) → flushed ≤ later → SpellsTable id flushed versions bytes → SpellsTable id later versions bytes
spelled_on id flushed later versions bytes within (format, is, spelled) = (
  format,
  record {
    some = is.some;
    in_order = is.in_order;
    in_range = list_all_from (is_version format flushed) (is_version format later) (λ v in_range. grind arith) versions is.in_range;
    id_fits = is.id_fits;
    places_fit = is.places_fit;
  },
  spelled,
)

pub tables_on : (id flushed later : ℕ) (bytes : List ℕ) (places : List (ℕ × ℕ)) (parts : List (List Version)) → flushed ≤ later → HasTables id flushed bytes places parts → HasTables id later bytes places parts
tables_on id flushed later bytes [] [] within has = has
tables_on id flushed later bytes [] (versions ∷ parts) within has = has
tables_on id flushed later bytes (place ∷ places) [] within has = has
tables_on id flushed later bytes (place ∷ places) (versions ∷ parts) within has = (
  record { before = has.0.before; spelling = has.0.spelling; after = has.0.after; parts = has.0.parts; place = has.0.place; size = has.0.size; is = spelled_on id flushed later versions has.0.spelling within has.0.is },
  tables_on id flushed later bytes places parts within has.1,
)

-- ---- more bytes come behind

table_in_front : (id flushed : ℕ) (bytes more : List ℕ) (place : ℕ × ℕ) (versions : List Version) → HasTable id flushed bytes place versions → HasTable id flushed (bytes ++ more) place versions
table_in_front id flushed bytes more place versions has = record {
  before = has.before;
  spelling = has.spelling;
  after = has.after ++ more;
  parts = ap (λ (l : List ℕ). l ++ more) has.parts ∙ append_assoc has.before (has.spelling ++ has.after) more
      ∙ ap (λ (l : List ℕ). has.before ++ l) (append_assoc has.spelling has.after more);
  place = has.place;
  size = has.size;
  is = has.is;
}

pub tables_in_front : (id flushed : ℕ) (bytes more : List ℕ) (places : List (ℕ × ℕ)) (parts : List (List Version)) → HasTables id flushed bytes places parts → HasTables id flushed (bytes ++ more) places parts
tables_in_front id flushed bytes more [] [] has = has
tables_in_front id flushed bytes more [] (versions ∷ parts) has = has
tables_in_front id flushed bytes more (place ∷ places) [] has = has
tables_in_front id flushed bytes more (place ∷ places) (versions ∷ parts) has =
    (table_in_front id flushed bytes more place versions has.0, tables_in_front id flushed bytes more places parts has.1)

pub tables_begin : (id flushed : ℕ) (bytes image : List ℕ) (places : List (ℕ × ℕ)) (parts : List (List Version)) → HasTables id flushed bytes places parts → BeginsWith bytes image → HasTables id flushed image places parts
tables_begin id flushed bytes image places parts has begins =
    subst (λ (l : List ℕ). HasTables id flushed l places parts) (sym begins.1) (tables_in_front id flushed bytes begins.0 places parts has)

-- the last bytes are a table
pub table_behind : (id flushed : ℕ) (before bytes : List ℕ) (place : ℕ) (versions : List Version) → place ≡ length before → SpellsTable id flushed versions bytes
    → HasTable id flushed (before ++ bytes) (place, length bytes) versions
table_behind id flushed before bytes place versions at spells = record {
  before = before;
  spelling = bytes;
  after = [];
  parts = ap (λ (l : List ℕ). before ++ l) (sym (append-nil bytes));
  place = sym at;
  size = refl;
  is = spells;
}
