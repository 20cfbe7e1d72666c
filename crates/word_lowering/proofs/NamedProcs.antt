-- Procedures of word code are well formed, and have numbers of their own.
use Rattle.std.proofs.Common.{◌≡◌, inl, inr, ℕ, zero, suc, ◌+◌, ◌*◌, ◌%◌, ◌≤◌, ◌<◌, List, [], ◌∷◌, ◌++◌, length, map, Bool, true, false}
use Rattle.std.proofs.Common.{not, ◌&&◌, nat_le}
use Rattle.std.proofs.Common.{Option, Some, None, slice_get, ◌==◌, refl, ap, arith}
use Rattle.std.proofs.lemmas.Bool.{and_parts, and_from, or_from, le-leb, leb-true, eq-eqb, ne_eqb}
use Rattle.nim_types.specs.declared.types.TypeDef.{TypeDef}
use Rattle.nim_program.specs.Traps.{Trap, Overflow, DivisionByZero, IndexOutOfBounds, OutOfRange, LengthChanged, CallDepth}
use Rattle.word_code.specs.declared.word.TheConstants.{MOST_ARGUMENTS, MOST_VARIABLES, SPARE_ROOM}
use Rattle.nim_program.specs.declared.program.HookOf.{HookOf}
use Rattle.flat_code.specs.declared.line.Line.{Line}
use Rattle.flat_code.specs.declared.block.BlockLine.{BlockLine}
use Rattle.flat_code.specs.declared.code.CodeProc.{CodeProc}
use Rattle.flat_code.specs.declared.code.Code.{Code}
use Rattle.word_code.specs.declared.word.WordInstr.{WordInstr}
use Rattle.word_code.specs.declared.word.WordProc.{WordProc}
use Rattle.flat_code.specs.Codes.{block_plain}
use Rattle.flat_code.specs.Running.{last_of}
use Rattle.word_code.specs.Joined.{moved, joined, IsFree, AreApart}
use Rattle.word_code.specs.Runtime.{AreRoutines}
use Rattle.word_code.specs.Words.{is_kind, is_proc, has_number, are_procs, is_word_code, may_start, first_of, from_proc}
use Rattle.word_code.proofs.ForCallers.{joined_formed}
use Rattle.word_lowering.specs.declared.homes.TheConstants.{OWN_FROM}
use Rattle.word_lowering.specs.declared.homes.Housed.{Housed}
use Rattle.word_lowering.specs.declared.homes.Layout.{Layout}
use Rattle.word_lowering.specs.declared.homes.Waiter.{Waiter}
use Rattle.word_code.specs.declared.routine.TheConstants.{PROCS_FROM}
use Rattle.word_lowering.specs.declared.texts.TheConstants.{FIXED_BYTES}
use Rattle.word_lowering.specs.declared.may_lower.TheConstants.{MOST_ROOM, MOST_VARS, MOST_WAITERS, MOST_FRAME}
use Rattle.word_lowering.specs.Layouts.{all_housed, behind_all, is_empty, free_at, layout_of, layouts, params_in, result_in, kept_in}
use Rattle.hook_code.specs.HookCode.{procs_in}
use Rattle.word_lowering.specs.LineCode.{Around, no_layout, or_none, layout_at, proc_number, first_hook, lines_code}
use Rattle.word_lowering.specs.Lowered as code
use Rattle.word_code.specs.RoutineTable.{trap_number}
use Rattle.word_lowering.specs.Operations.{trap_label}
use Rattle.word_lowering.specs.Texts.{texts_in}
use Rattle.word_lowering.specs.WaitingCode.{none_code}
use Rattle.word_lowering.specs.Runtimes.{Runtimes, with_runtimes}
use Rattle.word_lowering.specs.MayLower.{params_lead, all_known, hook_may, places_may, sizes_may, proc_may, procs_may, may_lower, result_end}
use Rattle.heap_memory.specs.declared.numbers.TheConstants.{HEAP_DATA}
use Rattle.word_lowering.proofs.JoinedRoutines.{beyond, both_apart, behind_found, found_own}
use Rattle.word_lowering.proofs.HookProcs.{HookLaws, AreHookProcs, all_are}
use Rattle.word_lowering.proofs.HomesApart.{Each, each_as, grows_all}
use Rattle.word_lowering.proofs.LayoutBounds.{IsBelow, IsParamBelow, IsGlobalBelow, IfHoused, bound_more}
use Rattle.word_lowering.proofs.LayoutBounds.{room_whole, all_below, kept_within, params_below, globals_below, result_each}
use Rattle.word_lowering.proofs.WaiterHomes.{AreBelow, room_whole_behind, waiters_below, waiters_grow}
use Rattle.word_lowering.specs.Reads.{all_reads, reads_in}
use Rattle.word_lowering.proofs.NamedCode.{AllNamed, none_named, none_read, named_true, named_on, spot_below, first_is}
use Rattle.word_lowering.proofs.NamedCode as named
use Rattle.word_lowering.proofs.NamedLines.{IsAroundBelow, lines_named}

-- ---- the lines of a procedure

module _ (vars : ℕ) (many : OWN_FROM ≤ vars) where
  result_named : (result : Option Housed) {k : List WordInstr} → IfHoused (λ h. IsBelow vars h.home) result → AllNamed vars k
      → AllNamed vars (code.result_cleared result k)
  result_named None h rest = rest
  result_named (Some r) h rest = named.cleared vars many r.is_word r.bytes _ (spot_below vars r h) rest

  none_named_of : (ws : List Waiter) {k : List WordInstr} → AreBelow vars ws → AllNamed vars k → AllNamed vars (none_code ws k)
  none_named_of [] below rest = rest
  none_named_of (w ∷ ws) below rest = named.constant vars many below.0 (none_named_of ws below.1 rest)

  trap_named : (leads : Bool) (label routine : ℕ) {k : List WordInstr} → AllNamed vars k → AllNamed vars (code.trap_code leads label routine k)
  trap_named true label routine rest = named.label vars many (named.call vars many (first_is vars many) rest)
  trap_named false label routine rest = rest

  end_named : (lines : List WordInstr) (trap : Trap) {k : List WordInstr} → AllNamed vars k → AllNamed vars (code.trap_end lines trap k)
  end_named lines trap rest = trap_named (code.any_branches (trap_label trap) lines) (trap_label trap) (trap_number trap) rest

  last_named : (lines : List WordInstr) → AllNamed vars (code.last_code lines)
  last_named lines =
      end_named lines Overflow (end_named lines DivisionByZero (end_named lines IndexOutOfBounds
      (end_named lines OutOfRange (end_named lines LengthChanged (end_named lines CallDepth none_named)))))

  code_named : (x : Around) (lines : List Line) → IsAroundBelow vars x → AllNamed vars (code.code_of x lines)
  code_named x lines below =
      named_on (none_named_of x.own.waiters below.waiting
      (result_named (result_in x.own.all) (result_each (λ h. IsBelow vars h.home) x.own.all below.own) (lines_named vars many x below lines none_named)))
      (last_named (code.begin_code x.own (lines_code x lines [])))

-- ---- a procedure

pub record IsLaid (own : Layout) : Type 0 where
  pub below : Each (λ h. IsBelow own.free.variable h.home) own.all
  pub waiting : AreBelow own.free.variable own.waiters
  pub many : OWN_FROM + kept_in (params_in own.all) ≤ own.free.variable
  pub whole : own.free.byte % 4 ≡ 0

pub laid : (table : List TypeDef) (start : Bool) (datum : ℕ) (p : CodeProc BlockLine) → IsLaid (layout_of table start datum p)
laid table start datum p =
    let lines : List Line = map block_plain p.lines in
    let grown = (grows_all table start lines (free_at datum) p.places).variable in
    let homes : List Housed = all_housed table start lines (free_at datum) p.places in
    let more = (waiters_grow (behind_all table start lines (free_at datum) p.places) homes).variable in
    let within = kept_within table start lines (free_at datum) p.places in
    record {
      below = all_below table start lines (free_at datum) p.places _ (omega (arith, grown, more)) more;
      waiting = waiters_below (behind_all table start lines (free_at datum) p.places) homes _ (omega arith);
      many = omega (arith, within, more);
      whole = room_whole_behind table start lines (free_at datum) (behind_all table start lines (free_at datum) p.places) p.places
          (room_whole table start lines (free_at datum) p.places refl);
    }

none_laid : IsLaid no_layout
none_laid = record { below = tt; waiting = tt; many = omega arith; whole = refl }

-- what is tested of a procedure and its layout
pub record Fits (own : Layout) (p : CodeProc BlockLine) : Type 0 where
  pub lead : params_lead p.places ≡ true
  pub hook : hook_may p.hook ≡ true
  pub room : own.free.byte ≤ MOST_ROOM
  pub vars : own.free.variable ≤ MOST_VARS
  pub arguments : OWN_FROM + kept_in (params_in own.all) ≤ MOST_ARGUMENTS
  pub handed : result_end (result_in own.all) ≤ SPARE_ROOM
  pub waiters : length own.waiters ≤ MOST_WAITERS
  pub together : 4 * own.free.variable + own.free.byte ≤ MOST_FRAME

pub fits_by : (table : List TypeDef) (own : Layout) (p : CodeProc BlockLine) → proc_may table own p ≡ true → Fits own p
fits_by table own p h =
    let both = and_parts (places_may table own p) (sizes_may own) h in
    let last : Bool = nat_le (result_end (result_in own.all)) SPARE_ROOM && (nat_le (length own.waiters) MOST_WAITERS
    && nat_le (4 * own.free.variable + own.free.byte) MOST_FRAME) in
    let forms = and_parts (params_lead p.places && (all_known table own.all && hook_may p.hook)) _ both.0 in
    let places = and_parts (params_lead p.places) (all_known table own.all && hook_may p.hook) forms.0 in
    let known = and_parts (all_known table own.all) (hook_may p.hook) places.1 in
    let sizes = and_parts (nat_le own.free.byte MOST_ROOM) _ both.1 in
    let spare = and_parts _ (nat_le own.free.variable MOST_VARS && (nat_le (OWN_FROM + kept_in (params_in own.all)) MOST_ARGUMENTS
    && last)) sizes.1 in
    let vars = and_parts (nat_le own.free.variable MOST_VARS) (nat_le (OWN_FROM + kept_in (params_in own.all)) MOST_ARGUMENTS
    && last) spare.1 in
    let passed = and_parts (nat_le (OWN_FROM + kept_in (params_in own.all)) MOST_ARGUMENTS) last vars.1 in
    let ends = and_parts (nat_le (result_end (result_in own.all)) SPARE_ROOM) (nat_le (length own.waiters) MOST_WAITERS
    && nat_le (4 * own.free.variable + own.free.byte) MOST_FRAME) passed.1 in
    let lasts = and_parts (nat_le (length own.waiters) MOST_WAITERS) (nat_le (4 * own.free.variable + own.free.byte) MOST_FRAME) ends.1 in
    record {
      lead = places.0;
      hook = known.1;
      room = leb-true own.free.byte MOST_ROOM sizes.0;
      vars = leb-true own.free.variable MOST_VARS vars.0;
      arguments = leb-true (OWN_FROM + kept_in (params_in own.all)) MOST_ARGUMENTS passed.0;
      handed = leb-true (result_end (result_in own.all)) SPARE_ROOM ends.0;
      waiters = leb-true (length own.waiters) MOST_WAITERS lasts.0;
      together = leb-true (4 * own.free.variable + own.free.byte) MOST_FRAME lasts.1;
    }

kind_fits : (start : Bool) (hook : Option HookOf) → hook_may hook ≡ true → is_kind (code.kind_in start hook) ≡ true
kind_fits true hook h = refl
kind_fits false None h = refl
kind_fits false (Some hook) h = h

proc_formed : (x : Around) (number : ℕ) (p : CodeProc BlockLine) → IsLaid x.own → IsAroundBelow x.own.free.variable x → x.own.free.variable ≤ MOST_VARS
    → is_kind (code.kind_in x.setting.start p.hook) ≡ true → is_proc (code.word_proc x number p) ≡ true
proc_formed x number p own below vars kind =
    let many : OWN_FROM ≤ x.own.free.variable = omega (arith, own.many) in
    and_from _ _ (le-leb (OWN_FROM + kept_in (params_in x.own.all)) x.own.free.variable own.many)
    (and_from _ _ (le-leb x.own.free.variable MOST_VARIABLES (omega (arith, vars)))
    (and_from _ _ (eq-eqb (x.own.free.byte % 4) 0 own.whole)
    (and_from _ _ kind (named_true (code_named x.own.free.variable many x (map block_plain p.lines) below)))))

proc_quiet : (x : Around) (number : ℕ) (p : CodeProc BlockLine) → IsLaid x.own → IsAroundBelow x.own.free.variable x
    → reads_in (code.word_proc x number p).lines ≡ 0
proc_quiet x number p own below =
    let many : OWN_FROM ≤ x.own.free.variable = omega (arith, own.many) in
    none_read (code_named x.own.free.variable many x (map block_plain p.lines) below)

quiet_if : (runs : Bool) (p : WordProc) (procs : List WordProc) → reads_in p.lines ≡ 0 → all_reads procs ≡ 0 → all_reads (code.if_runs runs p procs) ≡ 0
quiet_if true p procs first rest = omega (arith, first, rest)
quiet_if false p procs first rest = rest

-- ---- what holds of procedures one by one

-- numbers from one on
abbrev NumbersFrom : ℕ → List WordProc → Type 0
NumbersFrom n [] = Unit {0}
NumbersFrom n (p ∷ procs) = (n ≤ p.number) × NumbersFrom n procs

numbers_more : (m n : ℕ) (procs : List WordProc) → m ≤ n → NumbersFrom n procs → NumbersFrom m procs
numbers_more m n [] h i = tt
numbers_more m n (p ∷ procs) h i = (omega (arith, h, i.0), numbers_more m n procs h i.1)

absent : (m n : ℕ) (procs : List WordProc) → m < n → NumbersFrom n procs → has_number m procs ≡ false
absent m n [] h i = refl
absent m n (p ∷ procs) h i =
    or_from (p.number == m) (has_number m procs) (ne_eqb p.number m (λ e. absurd (omega (arith, h, i.0, e)))) (absent m n procs h i.1)

-- a smaller one isn't there
none_there : (m n : ℕ) (procs : List WordProc) → m < n → NumbersFrom n procs → not (has_number m procs) ≡ true
none_there m n procs h i = ap not (absent m n procs h i)

-- what is around each procedure
record IsShared (x : Around) : Type 0 where
  globals : (n : ℕ) → Each (IsGlobalBelow n) x.globals
  params : (proc : ℕ) → Each (IsParamBelow MOST_ARGUMENTS) (layout_at x proc).all

around_below : (x : Around) → IsShared x → IsLaid x.own → IsAroundBelow x.own.free.variable x
around_below x shared own = record {
  own = own.below;
  globals = shared.globals x.own.free.variable;
  params = shared.params;
  waiting = own.waiting;
}

shared_with : (x : Around) (own : Layout) (behind : ℕ) → IsShared x → IsShared (code.with_own x own behind)
shared_with x own behind shared = record { globals = shared.globals; params = shared.params }

-- well formed, and with numbers from one on
record AreFormed (n : ℕ) (procs : List WordProc) : Type 0 where
  formed : are_procs procs ≡ true
  numbers : NumbersFrom n procs

formed_if : (runs : Bool) (p : WordProc) (n next : ℕ) (procs : List WordProc) → is_proc p ≡ true → p.number ≡ n → next ≡ suc n
    → AreFormed next procs → AreFormed n (code.if_runs runs p procs)
formed_if true p n next procs ok same behind rest =
    let there = none_there p.number next procs (omega (arith, same, behind)) rest.numbers in
    record {
      formed = and_from (is_proc p) _ ok (and_from (not (has_number p.number procs)) (are_procs procs) there rest.formed);
      numbers = (omega (arith, same), numbers_more n next procs (omega (arith, behind)) rest.numbers);
    }
formed_if false p n next procs ok same behind rest =
    record { formed = rest.formed; numbers = numbers_more n next procs (omega (arith, behind)) rest.numbers }

formed_more : (m n : ℕ) (procs : List WordProc) → m ≤ n → AreFormed n procs → AreFormed m procs
formed_more m n procs le h = record { formed = h.formed; numbers = numbers_more m n procs le h.numbers }

-- in front of others
in_front : (runs : Bool) (p : WordProc) (n : ℕ) (procs others : List WordProc) → AreFormed n (code.if_runs runs p (procs ++ others))
    → AreFormed n (code.if_runs runs p procs ++ others)
in_front true p n procs others h = h
in_front false p n procs others h = h

-- ---- what is around all

module _ (table : List TypeDef) (datum : ℕ) where
  last_laid : (none : Layout) (procs : List (CodeProc BlockLine)) → IsLaid none → IsLaid (last_of none (layouts table datum procs))
  last_laid none [] h = h
  last_laid none (p ∷ ps) h = last_laid (layout_of table (is_empty ps) datum p) ps (laid table (is_empty ps) datum p)

  -- the layout of the start code has its globals in the data
  last_globals : (n : ℕ) (none : Layout) (p : CodeProc BlockLine) (ps : List (CodeProc BlockLine))
      → Each (IsGlobalBelow n) (last_of none (layouts table datum (p ∷ ps))).all
  last_globals n none p [] = globals_below table (map block_plain p.lines) n (free_at datum) p.places
  last_globals n none p (q ∷ ps) = last_globals n (layout_of table false datum p) q ps

  start_globals : (n : ℕ) (procs : List (CodeProc BlockLine)) → Each (IsGlobalBelow n) (last_of no_layout (layouts table datum procs)).all
  start_globals n [] = tt
  start_globals n (p ∷ ps) = last_globals n no_layout p ps

  last_vars : (none : Layout) (procs : List (CodeProc BlockLine)) → none.free.variable ≤ MOST_VARS → procs_may table (layouts table datum procs) procs ≡ true
      → (last_of none (layouts table datum procs)).free.variable ≤ MOST_VARS
  last_vars none [] h may = h
  last_vars none (p ∷ ps) h may =
      let own : Layout = layout_of table (is_empty ps) datum p in
      let both = and_parts (proc_may table own p) (procs_may table (layouts table datum ps) ps) may in
      last_vars own ps (fits_by table own p both.0).vars both.1

  -- nor have many values that wait homes in it
  pub last_waits : (none : Layout) (procs : List (CodeProc BlockLine)) → length none.waiters ≤ MOST_WAITERS
      → procs_may table (layouts table datum procs) procs ≡ true → length (last_of none (layouts table datum procs)).waiters ≤ MOST_WAITERS
  last_waits none [] h may = h
  last_waits none (p ∷ ps) h may =
      let own : Layout = layout_of table (is_empty ps) datum p in
      let both = and_parts (proc_may table own p) (procs_may table (layouts table datum ps) ps) may in
      last_waits own ps (fits_by table own p both.0).waiters both.1

  -- parameters are among arguments
  all_params : (procs : List (CodeProc BlockLine)) → procs_may table (layouts table datum procs) procs ≡ true → (proc : ℕ)
      → Each (IsParamBelow MOST_ARGUMENTS) (or_none (slice_get (layouts table datum procs) proc)).all
  all_params [] h proc = tt
  all_params (p ∷ ps) h zero =
      let own : Layout = layout_of table (is_empty ps) datum p in
      let both = and_parts (proc_may table own p) (procs_may table (layouts table datum ps) ps) h in
      let fits : Fits own p = fits_by table own p both.0 in
      each_as (λ other i. λ e. bound_more (OWN_FROM + kept_in (params_in own.all)) MOST_ARGUMENTS other.home fits.arguments (i e)) own.all
      (params_below table (is_empty ps) (map block_plain p.lines) (free_at datum) p.places fits.lead)
  all_params (p ∷ ps) h (suc proc) =
      all_params ps (and_parts (proc_may table (layout_of table (is_empty ps) datum p) p) (procs_may table (layouts table datum ps) ps) h).1 proc

  -- with others behind them, whose numbers are greater
  procs_formed : (x : Around) → IsShared x → (index : ℕ) (procs : List (CodeProc BlockLine)) (last : ℕ) (others : List WordProc)
      → proc_number index + length procs ≤ last → AreFormed last others → procs_may table (layouts table datum procs) procs ≡ true
      → AreFormed (proc_number index) (code.word_procs x index (layouts table datum procs) procs ++ others)
  procs_formed x shared index [] last others le behind_them may = formed_more (proc_number index) last others (omega (arith, le)) behind_them
  procs_formed x shared index (p ∷ []) last others le behind_them may = formed_more (proc_number index) last others (omega (arith, le)) behind_them
  procs_formed x shared index (p ∷ q ∷ ps) last others le behind_them may =
      let own : Layout = layout_of table false datum p in
      let behind : ℕ = length (texts_in (q ∷ ps)) in
      let y : Around = code.with_own x own behind in
      let rest : List WordProc = code.word_procs x (suc index) (layouts table datum (q ∷ ps)) (q ∷ ps) in
      let both = and_parts (proc_may table own p) (procs_may table (layouts table datum (q ∷ ps)) (q ∷ ps)) may in
      let fits : Fits own p = fits_by table own p both.0 in
      let is : IsLaid own = laid table false datum p in
      let ok = proc_formed y (proc_number index) p is (around_below y (shared_with x own behind shared) is) fits.vars (kind_fits false p.hook fits.hook) in
      in_front own.runs (code.word_proc y (proc_number index) p) (proc_number index) rest others
      (formed_if own.runs (code.word_proc y (proc_number index) p) (proc_number index) (proc_number (suc index)) (rest ++ others) ok refl (omega arith)
      (procs_formed x shared (suc index) (q ∷ ps) last others (omega (arith, le)) behind_them both.1))

  procs_quiet : (x : Around) → IsShared x → (index : ℕ) (procs : List (CodeProc BlockLine))
      → all_reads (code.word_procs x index (layouts table datum procs) procs) ≡ 0
  procs_quiet x shared index [] = refl
  procs_quiet x shared index (p ∷ []) = refl
  procs_quiet x shared index (p ∷ q ∷ ps) =
      let own : Layout = layout_of table false datum p in
      let behind : ℕ = length (texts_in (q ∷ ps)) in
      let y : Around = code.with_own x own behind in
      let is : IsLaid own = laid table false datum p in
      quiet_if own.runs (code.word_proc y (proc_number index) p) (code.word_procs x (suc index) (layouts table datum (q ∷ ps)) (q ∷ ps))
      (proc_quiet y (proc_number index) p is (around_below y (shared_with x own behind shared) is)) (procs_quiet x shared (suc index) (q ∷ ps))

-- the start code has the number 0, and the others none of a routine
module _ (laws : HookLaws) (table : List TypeDef) (blocks : Code BlockLine) (may : may_lower table blocks ≡ true) where
  abbrev procs : List (CodeProc BlockLine)
  procs = blocks.procs

  abbrev all : List Layout
  all = code.all_layouts table procs

  abbrev around : Around
  around = code.start_around table procs

  each : procs_may table all procs ≡ true
  each = (and_parts (procs_may table all procs) _ may).0

  shared : IsShared around
  shared = record { globals = λ n. start_globals table FIXED_BYTES n procs; params = all_params table FIXED_BYTES procs each }

  -- hooks of types stand behind them
  abbrev hooks : List WordProc
  hooks = procs_in table (first_hook procs)

  hook_numbers : (n : ℕ) (ps : List WordProc) → AreHookProcs n ps → NumbersFrom n ps
  hook_numbers n [] are = tt
  hook_numbers n (p ∷ ps) are = (are.0.number, hook_numbers n ps are.1)

  hooks_formed : AreFormed (first_hook procs) hooks
  hooks_formed = record { formed = laws.formed table (first_hook procs); numbers = hook_numbers (first_hook procs) hooks (all_are table (first_hook procs)) }

  others_formed : AreFormed (proc_number 0) (code.word_procs around 0 all procs ++ hooks)
  others_formed = procs_formed table FIXED_BYTES around shared 0 procs (first_hook procs) hooks (omega arith) hooks_formed each

  pub procs_are_formed : are_procs (code.lowered table blocks).procs ≡ true
  procs_are_formed =
      let own : IsLaid around.own = last_laid table FIXED_BYTES no_layout procs none_laid in
      let ok = proc_formed around 0 (last_of code.no_proc procs) own (around_below around shared own)
      (last_vars table FIXED_BYTES no_layout procs (omega arith) each) refl in
      and_from _ _ ok (and_from _ _ (none_there 0 (proc_number 0) _ (omega arith) others_formed.numbers) others_formed.formed)

  -- none of its own reads the input
  pub procs_are_quiet : all_reads (code.lowered_procs around procs) ≡ 0
  procs_are_quiet =
      let own : IsLaid around.own = last_laid table FIXED_BYTES no_layout procs none_laid in
      let start = proc_quiet around 0 (last_of code.no_proc procs) own (around_below around shared own) in
      let others = procs_quiet table FIXED_BYTES around shared 0 procs in
      omega (arith, start, others)

  all_beyond : (ps rs : List WordProc) → AreRoutines rs → NumbersFrom (proc_number 0) ps → AreApart ps rs
  all_beyond [] rs are numbers = tt
  all_beyond (p ∷ ps) rs are numbers = (beyond p.number rs are (inr (omega (arith, numbers.0))), all_beyond ps rs are numbers.1)

  -- so they are apart from those of a runtime
  pub apart_from : (rs : List WordProc) → AreRoutines rs → AreApart (code.lowered table blocks).procs rs
  apart_from rs are = (beyond 0 rs are (inl refl), all_beyond (code.word_procs around 0 all procs ++ hooks) rs are others_formed.numbers)

  -- and all of them are free among those in front
  free_all : (r : WordProc) (ps : List WordProc) → (0 < r.number) × (r.number < PROCS_FROM) → NumbersFrom (proc_number 0) ps → IsFree r.number ps
  free_all r [] small numbers = tt
  free_all r (p ∷ ps) small numbers =
      (λ e. let last = small.1 in absurd (omega (arith, e, last, numbers.0)), free_all r ps small numbers.1)

  pub apart_before : (rs : List WordProc) → AreRoutines rs → AreApart rs (code.lowered table blocks).procs
  apart_before [] are = tt
  apart_before (r ∷ rs) are =
      let first = are.0.first in
      let last = are.0.last in (
        (λ e. absurd (omega (arith, e, first)), free_all r (code.word_procs around 0 all procs ++ hooks) (first, last) others_formed.numbers),
        apart_before rs are.1,
      )

-- with all routines
module _ (laws : HookLaws) (table : List TypeDef) (blocks : Code BlockLine) (may : may_lower table blocks ≡ true) (r : Runtimes) where
  -- each number stands for one of them
  pub all_apart : AreApart r.heap.procs (code.lowered table blocks).procs × AreApart (joined r.heap (code.lowered table blocks)).procs r.others.procs
  all_apart = (
    apart_before laws table blocks may r.heap.procs r.is_heap.routines,
    both_apart r.heap.procs (code.lowered table blocks).procs r.others.procs (length r.heap.statics) r.apart
        (apart_from laws table blocks may r.others.procs r.is_others.routines),
  )

  -- the start code is found behind the heap's
  pub start_found : from_proc 0 (with_runtimes r (code.lowered table blocks)).procs
      ≡ moved HEAP_DATA (code.word_proc (code.start_around table blocks.procs) 0 (last_of code.no_proc blocks.procs))
      ∷ behind_found r (code.lowered table blocks)
      (code.word_procs (code.start_around table blocks.procs) 0 (code.all_layouts table blocks.procs) blocks.procs
      ++ procs_in table (first_hook blocks.procs))
  start_found =
      found_own r (code.lowered table blocks) 0 (code.word_proc (code.start_around table blocks.procs) 0 (last_of code.no_proc blocks.procs))
      (code.word_procs (code.start_around table blocks.procs) 0 (code.all_layouts table blocks.procs) blocks.procs
      ++ procs_in table (first_hook blocks.procs)) (inl refl) refl

  pub is_formed : is_word_code (with_runtimes r (code.lowered table blocks)) ≡ true
  is_formed =
      and_from _ _ (joined_formed (length (joined r.heap (code.lowered table blocks)).statics) (joined r.heap (code.lowered table blocks)).procs
      r.others.procs all_apart.1
      (joined_formed (length r.heap.statics) r.heap.procs (code.lowered table blocks).procs all_apart.0 r.is_heap.formed
      (procs_are_formed laws table blocks may))
      r.is_others.formed) (ap (λ ps. may_start (first_of ps).kind) start_found)
