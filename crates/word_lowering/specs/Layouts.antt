-- Where the places and temporaries of a procedure are in word code. An ordinal is a variable, unless a line hands its address on; a location is one
-- too, with the address to which it leads, unless it is another name for a place or a value. All else is in memory: globals in the data, the rest in
-- the places of the call. No public contract speaks of it.
use Rattle.std.specs.Prelude.{◌≤◌, ℕ, suc, ◌+◌, Bool, true, false, not, ◌&&◌, ◌||◌, List, [], ◌∷◌, map, Option, Some, None}
use Rattle.nim_types.specs.declared.types.TypeDef.{TypeDef}
use Rattle.nim_types.specs.declared.types.TheConstants.{WORD_BYTES}
use Rattle.nim_program.specs.declared.program.Mode.TheVariants.{Plain, Var}
use Rattle.flat_code.specs.declared.line.Line.{Line}
use Rattle.flat_code.specs.declared.place.PlaceKind.{PlaceKind}
use Rattle.flat_code.specs.declared.place.PlaceKind.TheVariants as K
use Rattle.flat_code.specs.declared.place.FlatPlace.{FlatPlace}
use Rattle.flat_code.specs.declared.block.BlockLine.{BlockLine}
use Rattle.flat_code.specs.declared.code.CodeProc.{CodeProc}
use Rattle.flat_code.specs.Codes.{block_plain}
use Rattle.word_lowering.specs.declared.homes.TheConstants.{FIRST, OWN_FROM}
use Rattle.word_lowering.specs.declared.may_lower.TheConstants.{MOST_ROOM}
use Rattle.word_lowering.specs.declared.homes.Alias.{Alias}
use Rattle.word_lowering.specs.declared.homes.Alias.TheVariants.{Own}
use Rattle.word_lowering.specs.declared.homes.Home.{Home}
use Rattle.word_lowering.specs.declared.homes.Home.TheVariants.{Variable, Placed, Static}
use Rattle.word_lowering.specs.declared.homes.Housed.{Housed}
use Rattle.word_lowering.specs.declared.homes.Free.{Free}
use Rattle.word_lowering.specs.declared.homes.Waiter.{Waiter}
use Rattle.word_lowering.specs.declared.homes.Layout.{Layout}
use Rattle.word_lowering.specs.Stored.{bytes_at, entry_at, is_word, is_letter, is_hooked}
use Rattle.word_lowering.specs.Aliases.{alias_for, addressed, standing, is_among}
pub use Rattle.word_lowering.specs.Lookups.{
  nowhere,
  is_sort,
  found,
  is_param,
  is_result,
  params_in,
  result_in,
  address_by,
  holds_address,
  owns,
  kept_by,
  kept_in,
}

-- ---- homes

-- what is in a variable: an address, and a word whose own address isn't needed
abbrev pub is_kept : (lent addressed word : Bool) → PlaceKind → Bool
is_kept lent addressed word K.Location = true
is_kept lent addressed word K.Within = true
is_kept lent addressed word (K.Param Var) = true
is_kept lent addressed word (K.Param Plain) = lent || word && not addressed
is_kept lent addressed word K.ForVar = lent || word && not addressed
is_kept lent addressed word K.Counter = true
is_kept lent addressed word K.Temp = word
is_kept lent addressed word kind = word && not addressed

-- globals are those of the start code
abbrev pub is_static : (start : Bool) → PlaceKind → Bool
is_static start K.Global = start
is_static start kind = false

abbrev pub home_at : (static kept : Bool) → Free → Home
home_at true kept free = Static free.datum
home_at false true free = Variable free.variable
home_at false false free = Placed free.byte

abbrev pub free_behind : (static kept : Bool) → (bytes : ℕ) → Free → Free
free_behind true kept bytes free = record free { datum = free.datum + bytes }
free_behind false true bytes free = record free { variable = suc free.variable }
free_behind false false bytes free = record free { byte = free.byte + bytes }

-- another name has no home
abbrev pub home_by : Alias → Home → Home
home_by Own home = home
home_by alias home = Variable FIRST

abbrev pub free_by : Alias → (before behind : Free) → Free
free_by Own before behind = behind
free_by alias before behind = before

-- a number that a loop keeps is a word, whatever its type says
abbrev pub word_by : PlaceKind → Bool → Bool
word_by K.Counter word = true
word_by kind word = word

abbrev pub letter_by : PlaceKind → Bool → Bool
letter_by K.Counter letter = false
letter_by kind letter = letter

abbrev pub bytes_by : PlaceKind → ℕ → ℕ
bytes_by K.Counter bytes = WORD_BYTES
bytes_by kind bytes = bytes

-- what waits is a temporary's own value that has something to do at its end
abbrev pub waits_by : PlaceKind → Alias → (hooked : Bool) → Option ℕ → Option ℕ
waits_by K.Temp Own true waits = waits
waits_by kind alias hooked waits = None

-- A place that stands for another one: a plain parameter whose type has something to do at its end, and the place of a loop to which a line gives
-- a location.
abbrev pub lent_by : PlaceKind → (hooked stands : Bool) → Bool
lent_by (K.Param Plain) hooked stands = hooked
lent_by K.ForVar hooked stands = hooked && stands
lent_by kind hooked stands = false

module _ (table : List TypeDef) (start : Bool) (lines : List Line) where
  abbrev pub place_word : FlatPlace → Bool
  place_word p = word_by p.kind (is_word (entry_at table p.ty))

  abbrev pub place_letter : FlatPlace → Bool
  place_letter p = letter_by p.kind (is_letter (entry_at table p.ty))

  abbrev pub place_bytes : FlatPlace → ℕ
  place_bytes p = bytes_by p.kind (bytes_at table p.ty)

  abbrev pub place_lent : FlatPlace → Bool
  place_lent p = lent_by p.kind (is_hooked table p.ty) (is_among p.number (standing lines))

  abbrev pub place_kept : FlatPlace → Bool
  place_kept p = is_kept (place_lent p) (is_among p.number (addressed lines)) (place_word p) p.kind

  abbrev pub place_alias : FlatPlace → Alias
  place_alias p = alias_for p.kind p.number lines

  abbrev pub housed : Free → FlatPlace → Housed
  housed free p = record {
    number = p.number;
    kind = p.kind;
    ty = p.ty;
    bytes = place_bytes p;
    is_word = place_word p;
    is_letter = place_letter p;
    alias = place_alias p;
    home = home_by (place_alias p) (home_at (is_static start p.kind) (place_kept p) free);
    waits = waits_by p.kind (place_alias p) (is_hooked table p.ty) p.waits;
    lent = place_lent p;
  }

  abbrev pub behind : Free → FlatPlace → Free
  behind free p = free_by (place_alias p) free (free_behind (is_static start p.kind) (place_kept p) (place_bytes p) free)

  abbrev pub all_housed : Free → List FlatPlace → List Housed
  all_housed free [] = []
  all_housed free (p ∷ ps) = housed free p ∷ all_housed (behind free p) ps

  abbrev pub behind_all : Free → List FlatPlace → Free
  behind_all free [] = free
  behind_all free (p ∷ ps) = behind_all (behind free p) ps

-- ---- what waits: while it does, it stands in a home of its own, whose address is in a variable

abbrev pub behind_waiter : (waits : Option ℕ) → (bytes : ℕ) → Free → Free
behind_waiter None bytes free = free
behind_waiter (Some node) bytes free = record free { variable = suc free.variable; byte = free.byte + bytes }

abbrev pub and_waiter : (waits : Option ℕ) → (ty bytes : ℕ) → Free → List Waiter → List Waiter
and_waiter None ty bytes free rest = rest
and_waiter (Some node) ty bytes free rest = record { node = node; ty = ty; bytes = bytes; at = free.byte; variable = free.variable } ∷ rest

abbrev pub waiters : Free → List Housed → List Waiter
waiters free [] = []
waiters free (h ∷ hs) = and_waiter h.waits h.ty h.bytes free (waiters (behind_waiter h.waits h.bytes free) hs)

abbrev pub behind_waiters : Free → List Housed → Free
behind_waiters free [] = free
behind_waiters free (h ∷ hs) = behind_waiters (behind_waiter h.waits h.bytes free) hs

abbrev pub is_empty : {A : Type 0} → List A → Bool
is_empty [] = true
is_empty (x ∷ xs) = false

-- the data of globals begins at a byte
abbrev pub free_at : ℕ → Free
free_at datum = record { variable = OWN_FROM; byte = 0; datum = datum }

abbrev pub laid : List TypeDef → (start : Bool) → (datum : ℕ) → List BlockLine → List FlatPlace → Layout
laid table start datum lines places = record {
  all = all_housed table start (map block_plain lines) (free_at datum) places;
  waiters = waiters (behind_all table start (map block_plain lines) (free_at datum) places)
      (all_housed table start (map block_plain lines) (free_at datum) places);
  free = behind_waiters (behind_all table start (map block_plain lines) (free_at datum) places)
      (all_housed table start (map block_plain lines) (free_at datum) places);
  runs = not (is_empty lines);
}

abbrev pub layout_of : List TypeDef → (start : Bool) → (datum : ℕ) → CodeProc BlockLine → Layout
layout_of table start datum p = laid table start datum p.lines p.places

-- the last procedure is the start code
abbrev pub layouts : List TypeDef → (datum : ℕ) → List (CodeProc BlockLine) → List Layout
layouts table datum [] = []
layouts table datum (p ∷ ps) = layout_of table (is_empty ps) datum p ∷ layouts table datum ps

-- ---- numbers of 32 bits

-- variables, bytes of places and of data
pub record AreNumbers (free : Free) : Type 0 where
  pub variable : free.variable ≤ 4294967295
  pub byte : free.byte ≤ 4294967295
  pub datum : free.datum ≤ 4294967295

-- in the places of the call, at most so many bytes from their begin
abbrev pub BeginsBy : ℕ → Home → Type 0
BeginsBy n (Placed at) = at ≤ n
BeginsBy n home = Unit {0}

abbrev pub AllBeginBy : ℕ → List Housed → Type 0
AllBeginBy n [] = Unit {0}
AllBeginBy n (h ∷ hs) = BeginsBy n h.home × AllBeginBy n hs

-- of a layout: what it takes, the variables that a call is given, and where its places are
pub record IsCounted (own : Layout) : Type 0 where
  pub free : AreNumbers own.free
  pub given : OWN_FROM + kept_in (params_in own.all) ≤ 4294967295
  pub room : own.free.byte ≤ MOST_ROOM
  pub places : AllBeginBy MOST_ROOM own.all

abbrev pub AreCounted : List Layout → Type 0
AreCounted [] = Unit {0}
AreCounted (own ∷ owns) = IsCounted own × AreCounted owns
