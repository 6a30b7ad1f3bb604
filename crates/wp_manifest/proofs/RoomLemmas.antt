-- A number of an edit's spelling is written over another.
use Rattle.std.proofs.Common.{◌≡◌, ℕ, ◌+◌, ◌<◌, ◌≤◌, ◌^◌, List, [], ◌∷◌, ◌++◌, length, take, drop, Option, Some, None, w64, get_or, refl, sym, ap, ◌∙◌, subst, arith}
use Rattle.std.proofs.Math.ListN.{set}
use Rattle.std.specs.Int.{to_be_bytes}
use Rattle.wp_manifest.specs.Edit.{Edit}
use Rattle.wp_manifest.specs.Room.{IsRoom, first_at, with_newest_at}

-- the log's place is behind 16 bytes
pub log_place_put : (frame next : List ℕ) (edit : Edit) (place : ℕ) → IsRoom frame edit → place < 2 ^ 64 → next ≡ take 16 frame ++ (to_be_bytes w64 place ++ drop (16 + 8) frame) → IsRoom next (record edit { place = Some place })
log_place_put frame next edit place room fits put = by edit.flushed edit.place edit.tables room
  where
    by : (flushed : ℕ) (before : Option ℕ) (tables : List (ℕ × ℕ)) → IsRoom frame (record { flushed = flushed; place = before; tables = tables }) → IsRoom next (record { flushed = flushed; place = Some place; tables = tables })
    by flushed None tables room = absurd cc
    by flushed (Some before) tables room = record {
      spelling = put ∙ ap (λ (l : List ℕ). take 16 l ++ (to_be_bytes w64 place ++ drop (16 + 8) l)) room.spelling;
      is = record { front = (room.is.front.0, fits, room.is.front.2); count = room.is.count; places = room.is.places };
      second = refl;
    }

-- the place of the first table is written over
pub first_set : (place : ℕ) (tables : List (ℕ × ℕ)) (seen : ℕ × ℕ) → seen ≡ get_or tables 0 seen → set tables 0 (place, seen.1) ≡ first_at place tables
first_set place [] seen is = refl
first_set place (table ∷ tables) seen is = ap (λ (t : ℕ × ℕ). (place, t.1) ∷ tables) is

-- the place of the newest table is behind 32
pub newest_within : (frame : List ℕ) (edit : Edit) → IsRoom frame edit → 1 ≤ length edit.tables → 32 + 8 ≤ length frame
newest_within frame edit room some = by edit.flushed edit.place edit.tables room some
  where
    by : (flushed : ℕ) (log : Option ℕ) (tables : List (ℕ × ℕ)) → IsRoom frame (record { flushed = flushed; place = log; tables = tables }) → 1 ≤ length tables → 32 + 8 ≤ length frame
    by flushed None tables room some = absurd cc
    by flushed (Some log) [] room some = absurd (omega arith)
    by flushed (Some log) (table ∷ tables) room some = omega (arith, ap length room.spelling)

pub newest_put : (frame next : List ℕ) (edit : Edit) (place : ℕ) (tables : List (ℕ × ℕ)) → IsRoom frame edit → place < 2 ^ 64 → 1 ≤ length edit.tables → tables ≡ first_at place edit.tables → next ≡ take 32 frame ++ (to_be_bytes w64 place ++ drop (32 + 8) frame) → IsRoom next (record edit { tables = tables })
newest_put frame next edit place tables room fits some same put =
    subst (λ (ts : List (ℕ × ℕ)). IsRoom next (record edit { tables = ts })) (sym same) (by edit.flushed edit.place edit.tables room some)
  where
    by : (flushed : ℕ) (log : Option ℕ) (tables : List (ℕ × ℕ)) → IsRoom frame (record { flushed = flushed; place = log; tables = tables }) → 1 ≤ length tables → IsRoom next (with_newest_at place (record { flushed = flushed; place = log; tables = tables }))
    by flushed None tables room some = absurd cc
    by flushed (Some log) [] room some = absurd (omega arith)
    by flushed (Some log) (table ∷ tables) room some = record {
      spelling = put ∙ ap (λ (l : List ℕ). take 32 l ++ (to_be_bytes w64 place ++ drop (32 + 8) l)) room.spelling;
      is = record { front = room.is.front; count = room.is.count; places = (fits, room.is.places.1, room.is.places.2) };
      second = room.second;
    }
