-- A closure may be shared by threads where all that it captures may.
use denote.RattleType.{RattleType}
use denote.Exit.{Kept}
use denote.Param.{arg}
use denote.Param.Send.{IsSync, AllSync, arg_sync}
use denote.Param.SendFields.{FieldsHave, as_row_sync, declared_sync}
use denote.Struct.Field.{row_field}
use denote.Struct.Tuple.{TupleAt, type_at, parts}
use mir.Syntax.{Ty, Sym}
use Rattle.std.proofs.Common.{List, [], ◌∷◌}

each_sync : (Ts : List RattleType) → AllSync Ts → FieldsHave IsSync (parts Ts)
each_sync [] s = tt
each_sync (T ∷ Ts) s = (as_row_sync (row_field T) s.0, each_sync Ts s.1)

pub captured_sync : (δ : Ty) (k : Kept) (name : Sym) (A B C D E : RattleType) → IsSync A → IsSync B → IsSync C → IsSync D → IsSync E → IsSync (arg δ k (TupleAt name (A ∷ B ∷ C ∷ D ∷ E ∷ [])))
captured_sync δ k name A B C D E a b c d e = arg_sync δ k (TupleAt name (A ∷ B ∷ C ∷ D ∷ E ∷ [])) (declared_sync (type_at name (A ∷ B ∷ C ∷ D ∷ E ∷ [])) (each_sync (A ∷ B ∷ C ∷ D ∷ E ∷ []) (a, (b, (c, (d, (e, tt)))))))
