-- What files tell before and after one load, by how it went.
use Rattle.std.specs.Prelude.{◌≡◌, ◌⊎◌, ◌≤◌, ◌<◌, ℕ, List, [], ◌∷◌, ◌++◌, length, ⊤, Option, Some, None}
use Rattle.arc_base.specs.FileCalls.{FileCall, load}
use Rattle.arc_base.specs.Outside.{Held, Rose}
use Rattle.arc_base.specs.declared.outside.Loaded.{Loaded}
use Rattle.arc_base.specs.declared.outside.Loaded.TheVariants.{Whole, Absent, TooLong}

-- what files tell: the bytes under each name, how often a load and a store failed, and the calls that they got
pub record FilesState : Type 0 where
  pub held : Option Held
  pub load_faults : ℕ
  pub store_faults : ℕ
  pub calls : List FileCall

abbrev pub files_state : Option Held → (load_faults store_faults : ℕ) → List FileCall → FilesState
files_state held load_faults store_faults calls = record { held = held; load_faults = load_faults; store_faults = store_faults; calls = calls }

-- no entry changed, and no call failed
pub record Kept (old new : FilesState) : Type 0 where
  pub held : new.held ≡ old.held
  pub loads : new.load_faults ≡ old.load_faults
  pub stores : new.store_faults ≡ old.store_faults

-- the one call was a load of that name, which was answered so
pub record Asked (old new : FilesState) (name : List ℕ) (answer : Loaded) (bytes : List ℕ) : Type 0 where
  pub kept : Kept old new
  pub calls : new.calls ≡ old.calls ++ load name answer bytes ∷ []

-- where files tell their entries, this holds of that one
abbrev pub OnEntry : Option Held → List ℕ → (Option (List ℕ) → Type 0) → Type 0
OnEntry None name P = ⊤
OnEntry (Some held) name P = P (held name)

-- it gave these bytes, which are no more than the most
pub record Gives (old new : FilesState) (name : List ℕ) (most : ℕ) (bytes : List ℕ) : Type 0 where
  pub asked : Asked old new name Whole bytes
  pub told : OnEntry old.held name (λ entry. entry ≡ Some bytes)
  pub within : length bytes ≤ most

-- there is no such entry
pub record Lacks (old new : FilesState) (name : List ℕ) : Type 0 where
  pub rest : List ℕ
  pub asked : Asked old new name Absent rest
  pub told : OnEntry old.held name (λ entry. entry ≡ None)

-- the entry has more bytes than the most
pub record IsLong (old new : FilesState) (name : List ℕ) (most : ℕ) : Type 0 where
  pub rest : List ℕ
  pub asked : Asked old new name TooLong rest
  pub told : OnEntry old.held name (λ entry. (bytes : List ℕ) × (entry ≡ Some bytes) × (most < length bytes))

-- it failed
pub record LoadFails (old new : FilesState) : Type 0 where
  pub held : new.held ≡ old.held
  pub loads : Rose old.load_faults new.load_faults
  pub stores : new.store_faults ≡ old.store_faults
  pub calls : new.calls ≡ old.calls

-- Memory was wanting, before a load of that name was answered or behind it. There was no other call, and none failed.
pub record Wants (old new : FilesState) (name : List ℕ) : Type 0 where
  pub kept : Kept old new
  pub calls : (new.calls ≡ old.calls) ⊎ ((answer : Loaded) × ((bytes : List ℕ) × (new.calls ≡ old.calls ++ load name answer bytes ∷ [])))
