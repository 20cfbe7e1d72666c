-- What labels have to cover stays, whatever types come behind.
use Rattle.std.proofs.Common.{◌≡◌, ℕ, zero, suc, ◌<◌, List, [], ◌∷◌, length, Some, None, refl, sym, ap, ◌∙◌, arith}
use Rattle.std.specs.Prelude.{slice_get, Option, pos, ◌-ℤ◌}
use Rattle.arc_base.specs.declared.place.Place.{Place}
use Rattle.nim_types.specs.declared.types.TypeDef.{TypeDef}
use Rattle.nim_types.specs.declared.types.TypeDef.TheVariants as D
use Rattle.nim_types.specs.Types as type
use Rattle.nim_types.specs.Types.{Ty, Key, Fact, Facts, fact_of, members, members_in}
use Rattle.nim_types.specs.Table.{type_at, types_in, facts_in, meant, said_of}
use Rattle.nim_types.proofs.ForCallers.{count, front, at_entry, said_number}
use Rattle.nim_program.specs.Program.{Label}
use Rattle.expr_rules.specs.Choices.{span, covers, cover_by, cover_rule}
use Rattle.decl_parts.specs.declared.state.State.{State as RustState}
use Rattle.decl_parts.specs.View.{Over, Further}

-- something is said of an enum
enum_said : (ts : List Ty) (d : TypeDef) (key : Key) → meant ts d ≡ type.enum key → (fact : Fact) × (said_of ts d ≡ Some fact)
enum_said ts (D.Enum name at all) key h = (members all, refl)
enum_said ts D.Int key h = cc
enum_said ts D.Bool key h = cc
enum_said ts D.Char key h = cc
enum_said ts D.Text key h = cc
enum_said ts (D.Seq i) key h = cc
enum_said ts (D.Param n) key h = cc
enum_said ts (D.Array n i) key h = cc
enum_said ts (D.Tuple names is) key h = cc
enum_said ts (D.Object name at is all own_hooks parts) key h = cc
enum_said ts (D.Distinct name at i) key h = cc
enum_said ts (D.Ref name i) key h = cc
enum_said ts (D.Exception name at parent) key h = cc

entry_there : (ds : List TypeDef) (i : ℕ) → i < length ds → (d : TypeDef) × (slice_get ds i ≡ Some d)
entry_there [] i lt = absurd (omega (arith, lt))
entry_there (d ∷ ds) zero lt = (d, refl)
entry_there (d ∷ ds) (suc i) lt = entry_there ds i (omega (arith, lt))

-- what is said of an enum of the table stays said
enum_stays : (old new : RustState) (ts : List Ty) (id : ℕ) (key : Key) → Further old new → Over new ts → id < length old.types
    → type_at ts id ≡ type.enum key → fact_of (facts_in new.types) (type.enum key) ≡ fact_of (facts_in old.types) (type.enum key)
enum_stays old new ts id key f u lt e =
    let v = f.over ts u in
    let all = types_in old.types in
    let d = entry_there old.types id lt in
    let here : type_at ts id ≡ type_at all id =
    ap (λ z. type_at z id) v.begins ∙ front all v.more id (omega (arith, lt, count old.types)) in
    let is : meant all d.0 ≡ type.enum key = sym (at_entry old.types id d.0 v.table d.1) ∙ sym here ∙ e in
    let x = enum_said all d.0 key is in
    let says : fact_of (facts_in old.types) (type.enum key) ≡ Some x.0 =
    ap (fact_of (facts_in old.types)) (sym (sym here ∙ e)) ∙ said_number old.types id d.0 v.table d.1 ∙ x.1 in
    f.said ts (type.enum key) x.0 u says ∙ sym says

cover_as : (before behind : Facts) (at : Place) (ty : Ty) (ls : List Label)
    → ((key : Key) → ty ≡ type.enum key → fact_of behind (type.enum key) ≡ fact_of before (type.enum key))
    → cover_rule before at ty None ls ≡ cover_rule behind at ty None ls
cover_as before behind at (type.enum key) ls h =
    ap (λ (o : Option Fact). cover_by (covers (span (pos 0) (pos (length (members_in o)) -ℤ pos 1)) ls) at) (sym (h key refl))
cover_as before behind at type.int ls h = refl
cover_as before behind at type.bool ls h = refl
cover_as before behind at type.char ls h = refl
cover_as before behind at type.text ls h = refl
cover_as before behind at (type.sequence t) ls h = refl
cover_as before behind at (type.array n t) ls h = refl
cover_as before behind at (type.tuple names all) ls h = refl
cover_as before behind at (type.parameter n) ls h = refl
cover_as before behind at (type.object key all) ls h = refl
cover_as before behind at (type.distinct key) ls h = refl
cover_as before behind at (type.ref name t) ls h = refl
cover_as before behind at (type.exception key) ls h = refl

pub cover_stays : (old new : RustState) (ts : List Ty) (id : ℕ) (at : Place) (ls : List Label) → Further old new → Over new ts → id < length old.types
    → cover_rule (facts_in old.types) at (type_at ts id) None ls ≡ cover_rule (facts_in new.types) at (type_at ts id) None ls
cover_stays old new ts id at ls f u lt =
    cover_as (facts_in old.types) (facts_in new.types) at (type_at ts id) ls (λ key e. enum_stays old new ts id key f u lt e)
