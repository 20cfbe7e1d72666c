-- Definitions that have been read, by number, and what the rules say of them by their keys. Contracts of the pass alone speak of it.
use Rattle.std.specs.Prelude.{◌≡◌, ℕ, ◌<◌, Bool, true, false, not, List, Option, Some, None, slice_get, map, length}
use Rattle.nim_types.specs.Types.{Ty, Key, same_key}
use Rattle.decl_rules.specs.Meanings.{Defined, KnownType, is_key_among, is_usable}
use Rattle.decl_types.specs.declared.known.Definition.{Definition}
use Rattle.decl_types.specs.ViewNodes.{key_at, formed_nodes}
use Rattle.decl_types.specs.ViewKnown.{IsSound, key_by, meant_by}
use Rattle.decl_types.specs.ViewMarks.{mark_at, Marks, Apart}

-- what a definition says, with the array and tuple types that are written in it
abbrev pub defined_by : List Ty → List Key → Definition → Defined
defined_by ts keys d = record { key = key_by d; meant = meant_by ts keys d; formed = formed_nodes ts keys d.nodes.items }

abbrev pub all_defined : List Ty → List Key → List Definition → List Defined
all_defined ts keys read = map (defined_by ts keys) read

abbrev pub defined_or : List Ty → List Key → Option Definition → Option Defined
defined_or ts keys None = None
defined_or ts keys (Some d) = Some (defined_by ts keys d)

abbrev pub defined_at : List Ty → List Key → List Definition → Option ℕ → Option Defined
defined_at ts keys read None = None
defined_at ts keys read (Some i) = defined_or ts keys (slice_get read i)

-- what isn't known of the section
abbrev pub is_open : List Key → List KnownType → Key → Bool
is_open keys known key = not (is_usable keys known key)

-- The first definitions of a section, over so many types; those are marked that aren't known.
pub record IsReading (n m : ℕ) (ts : List Ty) (keys : List Key) (known : List KnownType) (marks : List Bool) (read : List Definition) : Type 0 where
  pub sound : (i : ℕ) (d : Definition) → slice_get read i ≡ Some d → IsSound n m d
  pub key : (i : ℕ) (d : Definition) → slice_get read i ≡ Some d → key_by d ≡ key_at keys i
  pub among : (i : ℕ) → i < length read → is_key_among (key_at keys i) keys ≡ true
  pub differ : (i j : ℕ) → i < length read → j < length read → same_key (key_at keys i) (key_at keys j) ≡ true → i ≡ j
  pub marked : Marks keys marks (is_open keys known)
  pub apart : Apart ts n (is_open keys known)

abbrev pub NoneBefore : List Bool → ℕ → Type 0
NoneBefore marks n = (i : ℕ) → i < n → mark_at marks i ≡ false
