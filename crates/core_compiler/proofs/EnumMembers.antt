-- Each enum of a typed program's table has a member, and each member a name.
use Rattle.std.proofs.Common.{◌≡◌, ◌≢◌, ℕ, zero, suc, true, List, [], ◌∷◌, Some, refl, subst, arith}
use Rattle.std.specs.Prelude.{All, slice_get}
use Rattle.std.proofs.lemmas.Bool.{and_parts, and_from}
use Rattle.nim_types.specs.declared.types.TypeDef.{TypeDef}
use Rattle.nim_types.specs.declared.types.TypeDef.TheVariants as D
use Rattle.nim_types.specs.Types.{Ty, Facts, fact_of, members}
use Rattle.nim_types.specs.Types as type
use Rattle.nim_types.specs.Table.{types_in, facts_in, type_at, key_of, IsTable}
use Rattle.nim_types.proofs.ForCallers.{by_entry, said_by}
use Rattle.nim_program.specs.Kinds.{kind_of, declared_kind, is_declared_as, are_declared}
use Rattle.word_lowering.specs.MayLower.{none_empty, def_may, defs_may}
use Rattle.core_compiler.specs.Compile.{MembersNamed}
use Rattle.core_compiler.proofs.LinesAgree.{never}

declared_at : (facts : Facts) (ts : List Ty) (i : ℕ) → are_declared facts ts ≡ true → is_declared_as (type_at ts i) (kind_of facts (type_at ts i)) ≡ true
declared_at facts [] i h = refl
declared_at facts (t ∷ ts) zero h = (and_parts (is_declared_as t (kind_of facts t)) (are_declared facts ts) h).0
declared_at facts (t ∷ ts) (suc i) h = declared_at facts ts i (and_parts (is_declared_as t (kind_of facts t)) (are_declared facts ts) h).1

all_may : (defs : List TypeDef) → ((i : ℕ) (def : TypeDef) → slice_get defs i ≡ Some def → def_may def ≡ true) → defs_may defs ≡ true
all_may [] each = refl
all_may (def ∷ defs) each = and_from _ _ (each zero def refl) (all_may defs (λ i d e. each (suc i) d e))

all_named : (names : List (List ℕ)) → All (λ name. name ≢ []) names → none_empty names ≡ true
all_named [] h = refl
all_named ([] ∷ names) h = absurd (h 0 [] (omega arith) refl)
all_named ((b ∷ bytes) ∷ names) h = all_named names (λ k d l. h (suc k) d (omega (arith, l)))

module _ (ds : List TypeDef) (table : IsTable ds) (declared : are_declared (facts_in ds) (types_in ds) ≡ true) (named : MembersNamed (facts_in ds)) where
  entry_may : (i : ℕ) (def : TypeDef) → slice_get ds i ≡ Some def → def_may def ≡ true
  entry_may i (D.Enum name at all) e = by all (subst (λ t. is_declared_as t (kind_of (facts_in ds) t) ≡ true) (by_entry ds table i _ e)
      (declared_at (facts_in ds) (types_in ds) i declared)) (said_by ds table i _ e)
    where
      by : (all : List (List ℕ)) → is_declared_as (type.enum (key_of name at)) (kind_of (facts_in ds) (type.enum (key_of name at))) ≡ true
          → fact_of (facts_in ds) (type.enum (key_of name at)) ≡ Some (members all) → def_may (D.Enum name at all) ≡ true
      by [] d said = never (subst (λ o. is_declared_as (type.enum (key_of name at)) (declared_kind o) ≡ true) said d)
      by (member ∷ all) d said = all_named (member ∷ all) (named.names (type.enum (key_of name at)) (member ∷ all) said)
  entry_may i def e = refl

  pub enums_may : defs_may ds ≡ true
  enums_may = all_may ds entry_may
