-- What `words` asks of block code: that no form comes that word code has no room for, and none that isn't built. Block code that comes from a program
-- that is built has no such form.
use Rattle.std.specs.Prelude.{ℕ, ◌+◌, ◌*◌, nat_eq, nat_le, nat_lt, Bool, true, false, not, ◌&&◌, ◌||◌, if◌then◌else◌}
use Rattle.std.specs.Prelude.{List, [], ◌∷◌, length, map, Option, Some, None}
use Rattle.nim_types.specs.declared.types.TheConstants.{WORD_BYTES}
use Rattle.nim_types.specs.declared.types.TypeDef.{TypeDef}
use Rattle.nim_types.specs.declared.types.TypeDef.TheVariants as D
use Rattle.nim_types.specs.Forms.{form_of, levels}
use Rattle.nim_types.specs.Table.{type_at, types_in, facts_in}
use Rattle.nim_program.specs.declared.program.HookOf.{HookOf}
use Rattle.nim_program.specs.View.{if_type}
use Rattle.nim_program.specs.declared.operation.Operation.{Operation}
use Rattle.nim_program.specs.declared.operation.Operation.TheVariants as O
use Rattle.nim_meaning.specs.LeftOut.{is_built}
use Rattle.nim_meaning.specs.Unbuilt.{is_unbuilt}
use Rattle.flat_code.specs.declared.line.From.{From}
use Rattle.flat_code.specs.declared.line.From.TheVariants as F
use Rattle.flat_code.specs.declared.line.Owning.TheVariants as W
use Rattle.flat_code.specs.declared.line.Line.{Line}
use Rattle.flat_code.specs.declared.line.Line.TheVariants as L
use Rattle.flat_code.specs.declared.line.Owning.{Owning}
use Rattle.flat_code.specs.declared.line.Owning.TheVariants as W
use Rattle.flat_code.specs.declared.place.PlaceKind.{PlaceKind}
use Rattle.flat_code.specs.declared.place.PlaceKind.TheVariants as K
use Rattle.flat_code.specs.declared.place.FlatPlace.{FlatPlace}
use Rattle.flat_code.specs.declared.block.BlockLine.{BlockLine}
use Rattle.flat_code.specs.declared.code.Code.{Code}
use Rattle.flat_code.specs.declared.code.CodeProc.{CodeProc}
use Rattle.flat_code.specs.Codes.{block_plain}
use Rattle.flat_code.specs.Fits.{is_own, is_value, is_location, is_declared}
use Rattle.flat_code.specs.Whole.{label_in}
use Rattle.word_code.specs.declared.word.TheConstants.{SPARE_ROOM, MOST_ARGUMENTS, HOOK_KINDS}
use Rattle.word_lowering.specs.declared.homes.TheConstants.{OWN_FROM}
use Rattle.word_lowering.specs.declared.homes.Alias.{Alias}
use Rattle.word_lowering.specs.declared.homes.Alias.TheVariants.{Own, Place, Value, Node, Text}
use Rattle.word_lowering.specs.declared.homes.Home.{Home}
use Rattle.word_lowering.specs.declared.homes.Home.TheVariants.{Placed}
use Rattle.word_lowering.specs.declared.homes.Housed.{Housed}
use Rattle.word_lowering.specs.declared.homes.Layout.{Layout}
use Rattle.word_lowering.specs.declared.may_lower.TheConstants.{MOST_ROOM, MOST_VARS, MOST_WAITERS, MOST_FRAME, MOST_DATA}
use Rattle.word_lowering.specs.Aliases.{value_to, location_to, alias_by, is_it, texts_of, own_where, standing}
pub use Rattle.word_lowering.specs.Aliases.{homed_by}
use Rattle.word_lowering.specs.Stored.{entry_at, is_hooked, is_word}
use Rattle.word_lowering.specs.Layouts.{is_empty, found, owns, params_in, kept_in, is_param, result_in}
use Rattle.word_lowering.specs.Lowered.{all_layouts, data_of}

-- ---- places

-- parameters come before all else
abbrev pub no_params : List FlatPlace → Bool
no_params [] = true
no_params (p ∷ ps) = not (is_param p.kind) && no_params ps

abbrev pub params_lead : List FlatPlace → Bool
params_lead [] = true
params_lead (p ∷ ps) = if is_param p.kind then params_lead ps else no_params ps

-- Its type is one of the table, its values have code, and so many parts inside one another that hooks have room. A number that a loop keeps is a word,
-- whatever its type says.
abbrev pub is_known : List TypeDef → (ty : ℕ) → PlaceKind → Bool
is_known table ty K.Counter = true
is_known table ty kind =
    nat_lt ty (length table) && (not (is_unbuilt (facts_in table) (type_at (types_in table) ty))
    && nat_le (levels (form_of (facts_in table) (type_at (types_in table) ty))) 64)

abbrev pub all_known : List TypeDef → List Housed → Bool
all_known table [] = true
all_known table (h ∷ hs) = is_known table h.ty h.kind && all_known table hs

-- ---- lines

abbrev pub same_alias : Alias → Alias → Bool
same_alias Own Own = true
same_alias (Place p global) (Place q true) = nat_eq p q && global
same_alias (Place p global) (Place q false) = nat_eq p q && not global
same_alias (Value t) (Value u) = nat_eq t u
same_alias (Node n) (Node m) = nat_eq n m
same_alias (Text behind bytes) (Text other more) = nat_eq behind other && nat_eq bytes more
same_alias alias other = false

-- what gets a temporary agrees with what that is another name for
abbrev pub is_as : (PlaceKind → Bool) → List Housed → Option ℕ → Alias → Bool
is_as is_kind hs None alias = true
is_as is_kind hs (Some t) alias = same_alias (found is_kind t hs).alias alias

-- a temporary with a value may have a home instead
abbrev pub is_value_as : List Housed → Option ℕ → Alias → Bool
is_value_as hs None alias = true
is_value_as hs (Some t) alias = same_alias (found is_value t hs).alias Own || same_alias (found is_value t hs).alias alias

-- the type for whose values a line calls a hook
abbrev pub hook_type : Owning → Option ℕ
hook_type (W.TemporaryEnds node ty) = Some ty
hook_type (W.PlaceEnds place ty) = Some ty
hook_type (W.PlaceCopies place ty) = Some ty
hook_type (W.ResultGets place ty) = Some ty
hook_type what = None

abbrev pub has_hook : List TypeDef → Option ℕ → Bool
has_hook table None = true
has_hook table (Some ty) = is_hooked table ty

-- operations are built, nothing is dereferenced, and a hook that is called is one of a type that has some
abbrev pub has_code : List TypeDef → Line → Bool
has_code table (L.Apply to operation how ty of from) = is_built operation (facts_in table) (map (if_type (types_in table)) of)
has_code table (L.Object to from) = false
has_code table (L.Own what from) = has_hook table (hook_type what)
has_code table line = true

-- a place to which a line gives a location stands by address, and has no value of its own
abbrev pub stands_lent : List Housed → ℕ → Bool
stands_lent hs p = (found is_declared p hs).lent && not (owns (found is_declared p hs))

-- they are no other names for literals
abbrev pub own_values : List Housed → List From → Bool
own_values hs [] = true
own_values hs (F.Value t ∷ from) = same_alias (found is_value t hs).alias Own && own_values hs from
own_values hs (F.Place t ∷ from) = own_values hs from

-- What a line leads into: into a value that doesn't wait only where that has no hooks, and what waits has some. What it fills stands for nothing else.
-- A part is one of what has parts.
abbrev pub leads_right : List TypeDef → List Housed → Line → Bool
leads_right table hs (L.Fresh to from None) = not (is_hooked table (found is_value from hs).ty)
leads_right table hs (L.Fresh to from (Some node)) = is_hooked table (found is_value from hs).ty
leads_right table hs (L.Fill place from) = not (found is_own place hs).lent
leads_right table hs (L.Blank place ty) = not (found is_own place hs).lent
leads_right table hs (L.Give place from) = not (found is_own place hs).lent
leads_right table hs (L.Own (W.PlaceCopies place ty) from) = not (found is_own place hs).lent
leads_right table hs (L.Own (W.ResultGets place ty) from) = not (found is_own place hs).lent
leads_right table hs (L.Part to from field) = not (is_word (entry_at table (found is_location from hs).ty))
leads_right table hs (L.Own (W.PlaceStands place) from) = stands_lent hs place
leads_right table hs (L.Own (W.Waits node) (F.Value t ∷ [])) = is_hooked table (found is_value t hs).ty
leads_right table hs line = true

-- among lines that give locations to these places
abbrev pub line_may : List TypeDef → List Housed → (standing : List ℕ) → Line → (behind : ℕ) → Bool
line_may table hs standing line behind =
    is_value_as hs (value_to line) (alias_by line behind)
    && (is_as is_location hs (location_to line) (own_where standing (alias_by line behind))
    && (has_code table line && (own_values hs (homed_by line) && leads_right table hs line)))

abbrev pub lines_may : List TypeDef → List Housed → (standing : List ℕ) → List Line → Bool
lines_may table hs standing [] = true
lines_may table hs standing (line ∷ rest) = line_may table hs standing line (length (texts_of rest)) && lines_may table hs standing rest

-- a line is a label of that name
abbrev pub has_label : (name : ℕ) → List Line → Bool
has_label name [] = false
has_label name (line ∷ rest) = is_it name (label_in line) || has_label name rest

abbrev pub is_fresh : Option ℕ → List Line → Bool
is_fresh None rest = true
is_fresh (Some name) rest = not (has_label name rest)

-- no label comes twice
abbrev pub labels_once : List Line → Bool
labels_once [] = true
labels_once (line ∷ rest) = is_fresh (label_in line) rest && labels_once rest

abbrev pub labels_may : List (CodeProc BlockLine) → Bool
labels_may [] = true
labels_may (p ∷ procs) = labels_once (map block_plain p.lines) && labels_may procs

-- ---- declarations

-- a user's hook is of one of the kinds that there are
abbrev pub hook_may : Option HookOf → Bool
hook_may None = true
hook_may (Some hook) = nat_lt hook.kind HOOK_KINDS

abbrev pub none_empty : List (List ℕ) → Bool
none_empty [] = true
none_empty (name ∷ names) = not (is_empty name) && none_empty names

-- each enum has a member, at which its places start, and each member a name
abbrev pub def_may : TypeDef → Bool
def_may (D.Enum name at members) = not (is_empty members) && none_empty members
def_may def = true

abbrev pub defs_may : List TypeDef → Bool
defs_may [] = true
defs_may (def ∷ defs) = def_may def && defs_may defs

-- ---- sizes

-- the bytes of those that are in the places of the call
abbrev pub and_placed : Home → (bytes rest : ℕ) → ℕ
and_placed (Placed at) bytes rest = bytes + rest
and_placed home bytes rest = rest

abbrev pub placed_bytes : List Housed → ℕ
placed_bytes [] = 0
placed_bytes (h ∷ hs) = and_placed h.home h.bytes (placed_bytes hs)

-- where one of them ends
abbrev pub placed_end : Home → (bytes : ℕ) → ℕ
placed_end (Placed at) bytes = at + bytes
placed_end home bytes = 0

abbrev pub result_end : Option Housed → ℕ
result_end None = 0
result_end (Some h) = placed_end h.home h.bytes

-- What a call hands on and back stands within the room for arguments. Its variables and its places are few together.
abbrev pub sizes_may : Layout → Bool
sizes_may own =
    nat_le own.free.byte MOST_ROOM && (nat_le (placed_bytes (params_in own.all)) SPARE_ROOM
    && (nat_le own.free.variable MOST_VARS && (nat_le (OWN_FROM + kept_in (params_in own.all)) MOST_ARGUMENTS
    && (nat_le (result_end (result_in own.all)) SPARE_ROOM && (nat_le (length own.waiters) MOST_WAITERS
    && nat_le (WORD_BYTES * own.free.variable + own.free.byte) MOST_FRAME)))))

-- ---- all of it

abbrev pub places_may : List TypeDef → Layout → CodeProc BlockLine → Bool
places_may table own p =
    (params_lead p.places && (all_known table own.all && hook_may p.hook))
    && lines_may table own.all (standing (map block_plain p.lines)) (map block_plain p.lines)

abbrev pub proc_may : List TypeDef → Layout → CodeProc BlockLine → Bool
proc_may table own p = places_may table own p && sizes_may own

abbrev pub procs_may : List TypeDef → List Layout → List (CodeProc BlockLine) → Bool
procs_may table owns [] = true
procs_may table [] (p ∷ ps) = true
procs_may table (own ∷ owns) (p ∷ ps) = proc_may table own p && procs_may table owns ps

abbrev pub may_lower : List TypeDef → Code BlockLine → Bool
may_lower table blocks =
    procs_may table (all_layouts table blocks.procs) blocks.procs
    && (nat_le (length (data_of table blocks.procs)) MOST_DATA && (defs_may table && labels_may blocks.procs))
