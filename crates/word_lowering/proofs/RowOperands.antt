-- A text operand of a row is the address of a handle: that at its home, or one in the data, which is made first of a literal or a character.
use Rattle.std.proofs.Common.{◌≡◌, ◌⊎◌, inl, inr, ℕ, ◌+◌, ◌%◌, ◌^◌, ◌<◌, ◌≤◌, List, [], ◌∷◌, length, Option, Some, None, true, refl, sym, ap, ap₂, subst, ◌∙◌}
use Rattle.std.proofs.Common.{arith}
use Rattle.std.proofs.lemmas.Bool.{eq-eqb}
use Rattle.nim_types.specs.declared.types.TypeDef.{TypeDef}
use Rattle.nim_types.specs.declared.types.TypeDef.TheVariants as D
use Rattle.nim_types.specs.Table.{facts_in, type_at, types_in}
use Rattle.nim_program.specs.Ints.{low_byte}
use Rattle.nim_meaning.specs.Texts.{text_at as shown_text}
use Rattle.nim_meaning.specs.Values.{Value, Number, Parts, Handle, Fixed, Vacant, number_of}
use Rattle.nim_meaning.specs.State.{is_whole, text_of}
use Rattle.flat_code.specs.declared.block.BlockLine.{BlockLine}
use Rattle.flat_code.specs.Fits.{is_value}
use Rattle.flat_code.specs.Shapes.{Shape, block, number, shape_of}
use Rattle.flat_code.specs.Sizes.{lines_texts}
use Rattle.std.specs.Set.{is_member}
use Rattle.nim_types.specs.Types.{same_text}
use Rattle.rv32_isa.specs.declared.micro_op.Size.TheVariants.{Byte, Word}
use Rattle.word_code.specs.declared.word.WordInstr.{WordInstr}
use Rattle.word_code.specs.declared.word.WordInstr.TheVariants.{Constant, Datum, Store}
use Rattle.word_code.specs.Memory.{Memory, may_put, own_data_at, with_number}
use Rattle.word_code.specs.RoutineTable.{Beside, IsRewritten}
use Rattle.word_code.specs.Words.{Vars, put}
use Rattle.word_code.proofs.ForCallers.{Runs, at as state_at, none as no_lines, run_constant, run_store, sizes_more, sizes_same, store_here, store_rewritten}
use Rattle.word_code.proofs.ForCallers.{then_runs}
use Rattle.heap_memory.specs.AppendRoutine.{Outside}
use Rattle.heap_memory.specs.HandleRoutines.{MayHave}
use Rattle.heap_memory.specs.HeapUse.{IsElsewhere}
use Rattle.heap_memory.specs.TextRoutines.{AreBytes}
use Rattle.heap_memory.proofs.ForCallers.{is_there as block_is_there}
use Rattle.word_lowering.specs.declared.handed.TheConstants.{LEFT_HANDLE_AT}
use Rattle.word_lowering.specs.declared.homes.TheConstants.{FIRST, OWN_FROM, SECOND}
use Rattle.word_lowering.specs.declared.homes.Alias.TheVariants as alias
use Rattle.word_lowering.specs.declared.homes.Home.{Home as Place}
use Rattle.word_lowering.specs.declared.homes.Housed.{Housed}
use Rattle.word_lowering.specs.declared.homes.Home.TheVariants.{Placed, Static, Variable}
use Rattle.word_lowering.specs.declared.texts.TheConstants.{FIXED_BYTES}
use Rattle.word_lowering.specs.Operands.{Around, literal_at, variable_of}
use Rattle.word_lowering.specs.Lowered.{data_at}
use Rattle.word_lowering.specs.OwnedCode as owned
use Rattle.word_lowering.specs.OwnedCode.{handle_code, letter_code, literal_text, no_text_code}
use Rattle.word_lowering.specs.Stored.{entry_at}
use Rattle.word_lowering.proofs.Arithmetic.{small_byte}
use Rattle.word_lowering.proofs.Blocks.{Stored}
use Rattle.word_lowering.proofs.HandlesMade.{IsSourceBeside, handle_made}
use Rattle.word_lowering.proofs.Keeping.{from_home, points_there}
use Rattle.word_lowering.proofs.Lines.{Basis, IsGood, all_procs, all_sites, handle_there, lower, starts}
use Rattle.word_lowering.proofs.Moves.{IsHigh, address_runs, all_same, same_first, same_more, same_second}
use Rattle.word_lowering.proofs.OrdinalRuns.{AllSame, put_here, put_low, put_other}
use Rattle.word_lowering.proofs.Related.{Both, IsClosed, body_of, sites_of, store_of, within}
use Rattle.word_lowering.proofs.Scenes.{IsLiteral, IsNamed, IsThere, StoredIn, address_of, house, is_fixed, looked, of_value}
use Rattle.word_lowering.proofs.ShapeFacts.{never}
use Rattle.word_lowering.proofs.Sites.{Housing, InMemory, IsTextual, around, by_address, data_end, in_data, in_places, in_variable, is_one_word, lines_of, room}
use Rattle.word_lowering.proofs.SitesApart.{InRange, houses, site_at}
use Rattle.word_lowering.proofs.Sources.{Lying, lying_all, lying_near, lying_range}
use Rattle.word_lowering.proofs.TextLines.{TextAt as LaidAt}
use Rattle.word_lowering.proofs.TextOperands.{FixedThere, IsText, TextAt, text_at_handle, text_block, text_is, text_long}
use Rattle.word_lowering.proofs.TextRowRuns.{IsAt}
use Rattle.word_lowering.proofs.Told.{IsTold, told_handle, told_none}
use Rattle.word_lowering.proofs.TypeEntries.{entry_text}
use Rattle.word_lowering.proofs.ValueFacts.{HasType, has_type, look_of, type_in, value_plain, with_home}
use Rattle.word_lowering.proofs.WriteLines.{one_byte}
use Rattle.word_lowering.proofs.WrittenLines.{Writing, read, small, small_word}

pub high_inside : (home : Place) → InMemory home → IsHigh home
high_inside (Variable v) i = absurd i
high_inside (Placed at) i = tt
high_inside (Static at) i = tt

module _ (x : Basis) (said : Writing x) (g : Both) (line : BlockLine) (rest : List BlockLine) (y : IsGood x (starts g line rest)) where
  -- in front of other lines: behind what makes the handle, which changes no more than words for what comes between and bytes beside all places
  pub record HasHandleAt (from : ℕ) (lines k : List WordInstr) (home : Place) (text : List ℕ) : Type 0 where
    pub vars : Vars
    pub same : AllSame g.call.vars vars
    pub memory : Memory
    pub told : IsTold x said.least (sites_of g) g.memory memory
    -- one in the data is made there, and nothing else is other than before
    pub only : IsRewritten g.memory memory (data_at + from) 12
    pub address : ℕ
    pub text_at : TextAt g.world.heap g.ground.blocks.stands memory address text
    -- another one in the data is beside it
    pub beside : (other : ℕ) → LEFT_HANDLE_AT ≤ other → other + 12 ≤ FIXED_BYTES → (other + 12 ≤ from) ⊎ (from + 12 ≤ other)
        → Beside address 8 (data_at + other) 12 × IsSourceBeside text_at.source (data_at + other) 12
    pub short : length text < 2 ^ 31
    pub at_home : IsAt g.call.site.base vars home address
    pub count : ℕ
    pub few : count ≤ 15
    pub runs : Runs x.live (all_procs x) count (state_at (within x.table x.blocks g) g.memory lines g.call.vars g.words)
        (state_at (within x.table x.blocks g) memory k vars g.words)

  -- what stands in the data is beside handles there
  closed_beside : (other : ℕ) → LEFT_HANDLE_AT ≤ other → other + 12 ≤ FIXED_BYTES → (p n : ℕ) → IsClosed x.table x.blocks p n
      → Beside p n (data_at + other) 12
  closed_beside other low high p n (inl h) = inl (omega (arith, h.1, low))
  closed_beside other low high p n (inr h) = let least = said.least in inr (omega (arith, h.0, high, least))

  -- ---- of its own

  -- texts that are never changed stand in the data
  abbrev pub FixedClosed : Type 0
  FixedClosed = (place : ℕ) (text : List ℕ) → is_fixed g.ground place text → IsClosed x.table x.blocks place (length text)

  pub source_beside : (are : AreBytes g.memory.heap) (fixed : FixedThere (is_fixed g.ground) g.memory) → FixedClosed → (a : ℕ) (v : Value)
      (text : IsText (is_fixed g.ground) v) (stored : Stored (is_fixed g.ground) g.ground.blocks g.memory a block v) (whole : is_whole g.world v ≡ true)
      → (other : ℕ) → LEFT_HANDLE_AT ≤ other → other + 12 ≤ FIXED_BYTES
      → IsSourceBeside
      (text_at_handle (is_fixed g.ground) g.ground.blocks g.world g.memory y.heap y.memory.sized are fixed a v text stored whole).source (data_at + other) 12
  source_beside are fixed closed a (Handle n None) text stored whole other low high = inl (omega arith)
  source_beside are fixed closed a (Handle n (Some k)) text stored whole other low high = tt
  source_beside are fixed closed a (Fixed t) text stored whole other low high =
      closed_beside other low high stored.place (length t) (closed stored.place t stored.stands)
  source_beside are fixed closed a (Number z) text stored whole other low high = absurd text
  source_beside are fixed closed a (Parts vs) text stored whole other low high = absurd text
  source_beside are fixed closed a Vacant text stored whole other low high = absurd text
  source_beside are fixed closed a v text stored whole other low high = absurd text

  closed_short : (p n : ℕ) → IsClosed x.table x.blocks p n → n < 2 ^ 31
  closed_short p n (inl h) = omega (arith, h.1)
  closed_short p n (inr h) = omega (arith, h.1)

  pub text_short : FixedClosed → (a : ℕ) (v : Value) → IsText (is_fixed g.ground) v → Stored (is_fixed g.ground) g.ground.blocks g.memory a block v
      → is_whole g.world v ≡ true → length (text_of g.world v) < 2 ^ 31
  text_short closed a (Handle n None) text stored whole = omega arith
  text_short closed a (Handle n (Some i)) text stored whole =
      let t = text_block (is_fixed g.ground) g.ground.blocks g.world g.memory y.heap a n i stored whole in
      let e = ap length (text_is (is_fixed g.ground) g.ground.blocks g.world g.memory y.heap n i t) in
      let l = t.long in
      let few = text_long (is_fixed g.ground) g.ground.blocks g.world g.memory y.heap n i t in
      let there = block_is_there own_data_at g.world.heap.classes g.ground.blocks.stands g.memory y.heap.kept i t.is.standing t.is.stands y.memory.sized in
      let low = there.low in
      let high = there.high in
      let most = y.memory.sized.heap_most in
      omega (arith, e, l, few, low, high, most)
  text_short closed a (Fixed t) text stored whole = closed_short stored.place (length t) (closed stored.place t stored.stands)
  text_short closed a (Number z) text stored whole = absurd text
  text_short closed a (Parts vs) text stored whole = absurd text
  text_short closed a Vacant text stored whole = absurd text
  text_short closed a v text stored whole = absurd text

  pub own_handle : (from t : ℕ) (v : Value) → IsThere g.call.site (of_value t) → (inside : InMemory (house g.call.site (of_value t)).home)
      → looked x.table g.call.site (of_value t) ≡ block → g.call.temps.values t ≡ Some v → IsText (is_fixed g.ground) v → is_whole g.world v ≡ true
      → AreBytes g.memory.heap → FixedThere (is_fixed g.ground) g.memory → FixedClosed → (k : List WordInstr)
      → HasHandleAt from k k (house g.call.site (of_value t)).home (text_of g.world v)
  own_handle from t v there inside look e text whole are fixed closed k =
      let home : Place = (house g.call.site (of_value t)).home in
      let a : ℕ = address_of g.call.site.base home in
      let item = y.hold.0.items (of_value t) v there e in
      let stored : StoredIn (store_of g) a block v
      = subst (λ s. StoredIn (store_of g) a s v) look
      (from_home (store_of g) g.call.site.base g.call.vars (looked x.table g.call.site (of_value t)) (house g.call.site (of_value t)) v item.plain inside
      item.at) in
      let lying : Lying x (all_sites x g line rest y) y.linked a (house g.call.site (of_value t)).bytes
      = lying_all x (all_sites x g line rest y) y.linked g.call.site (of_value t) (house g.call.site (of_value t)).bytes (inl refl) there inside refl in
      let near = lying_near x (all_sites x g line rest y) y.linked a (house g.call.site (of_value t)).bytes lying in
      record {
        vars = g.call.vars;
        same = all_same g.call.vars;
        memory = g.memory;
        told = told_none x said.least (sites_of g) g.memory y.memory;
        only = record { sizes = sizes_same g.memory; beside = λ b i h. refl };
        address = a;
        text_at = text_at_handle (is_fixed g.ground) g.ground.blocks g.world g.memory y.heap y.memory.sized are fixed a v text stored whole;
        beside = λ other low high apart. (
          away a (house g.call.site (of_value t)).bytes other high
              (lying_range x (all_sites x g line rest y) y.linked a (house g.call.site (of_value t)).bytes lying),
          source_beside are fixed closed a v text stored whole other low high,
        );
        short = text_short closed a v text stored whole;
        at_home = record { points = points_there g.call.site.base g.call.vars home inside; high = high_inside home inside; small = omega (arith, near) };
        count = 0;
        few = omega arith;
        runs = no_lines (lower x) (state_at (within x.table x.blocks g) g.memory k g.call.vars g.words);
      }
    where
      -- places are beside what is in the data in front of the globals
      away : (a n other : ℕ) → other + 12 ≤ FIXED_BYTES → InRange x.table x.blocks g.call.site a n → Beside a 8 (data_at + other) 12
      away a n other high (inl r) = inr (omega (arith, r.1, high))
      away a n other high (inr r) =
          let s = site_at x.table x.blocks (all_sites x g line rest y) g.call.site y.linked (inl refl) in
          let least = s.least in inr (omega (arith, r.0, least, high))

  -- ---- one in the data

  module _ (from : ℕ) (low : LEFT_HANDLE_AT ≤ from) (high : from + 12 ≤ FIXED_BYTES) (whole : from % 4 ≡ 0) where
    abbrev here : ℕ
    here = data_at + from

    may_have : MayHave g.memory here
    may_have =
        let next : here + 4 ≡ data_at + (from + 4) = omega arith in (
          handle_there x (sites_of g) g.memory y.memory said.least from Word (omega (arith, high)) (eq-eqb (here % 4) 0 (omega (arith, whole))),
          ap (λ a. may_put g.memory a Word) next
              ∙ handle_there x (sites_of g) g.memory y.memory said.least (from + 4) Word (omega (arith, high))
              (eq-eqb ((data_at + (from + 4)) % 4) 0 (omega (arith, whole))),
        )

    wide : (m other : Memory) → IsRewritten m other here 8 → IsRewritten m other here 12
    wide m other w = record { sizes = w.sizes; beside = λ b i h. w.beside b i (narrow b i h) }
      where
        narrow : (b i : ℕ) → Beside b i here 12 → Beside b i here 8
        narrow b i (inl h) = inl h
        narrow b i (inr h) = inr (omega (arith, h))

    -- what stands in the data stands elsewhere
    elsewhere : (m : Memory) (p n : ℕ) → IsClosed x.table x.blocks p n → IsElsewhere own_data_at m p n
    elsewhere m p n (inl h) =
        record { heap = inr (omega (arith, h.1)); words = inl (omega (arith, h.0)); room = inl (omega (arith, h.0)) }
    elsewhere m p n (inr h) =
        record { heap = inr (omega (arith, h.1)); words = inl (omega (arith, h.0)); room = inl (omega (arith, h.0)) }

    here_beside : (other : ℕ) → (other + 12 ≤ from) ⊎ (from + 12 ≤ other) → Beside here 8 (data_at + other) 12
    here_beside other (inl h) = inr (omega (arith, h))
    here_beside other (inr h) = inl (omega (arith, h))

    letter_beside : (other : ℕ) → (other + 12 ≤ from) ⊎ (from + 12 ≤ other) → Beside (here + 8) 1 (data_at + other) 12
    letter_beside other (inl h) = inr (omega (arith, h))
    letter_beside other (inr h) = inl (omega (arith, h))

    closed_small : (p n : ℕ) → IsClosed x.table x.blocks p n → p + n < 2 ^ 32
    closed_small p n (inl h) = omega (arith, h.1)
    closed_small p n (inr h) = omega (arith, h.1)

    -- of a text of the data, behind what leads to it
    pub laid_handle : (place : ℕ) (text : List ℕ) → LaidAt x place text → AreBytes text → (front k : List WordInstr) (v : Vars) → AllSame g.call.vars v
        → v FIRST ≡ Some (data_at + place) → v SECOND ≡ Some (length text) → (i : ℕ) → i ≤ 11
        → Runs x.live (all_procs x) i (state_at (within x.table x.blocks g) g.memory front g.call.vars g.words)
        (state_at (within x.table x.blocks g) g.memory (handle_code from k) v g.words)
        → HasHandleAt from front k (Static from) text
    laid_handle place text laid letters front k v same first second i few_first runs =
        let p : ℕ = data_at + place in
        let n : ℕ = length text in
        let small = laid.small in
        let made = handle_made x.law x.live (all_procs x) (within x.table x.blocks g) refl from here (omega (arith, high)) k g.words g.memory v refl
        y.memory.sized may_have p n (omega (arith, small)) (omega (arith, small)) first second in
        let told : IsTold x said.least (sites_of g) g.memory made.memory
        = told_handle x said.least (sites_of g) g.memory made.memory y.memory from low high (wide g.memory made.memory made.rewritten) in
        record {
          vars = made.vars;
          same = same_more g.call.vars v made.vars same made.same;
          memory = made.memory;
          told = told;
          only = wide g.memory made.memory made.rewritten;
          address = here;
          text_at = record {
            source = Outside p text;
            all = tt;
            bytes = refl;
            handle = made.handle;
            few = omega (arith, small);
            is = (
              letters,
              omega (arith, small),
              told.good.texts p n laid.is_text ∙ laid.bytes,
              elsewhere made.memory p n laid.is_text.0,
            );
          };
          beside = λ other low' high' apart. (here_beside other apart, closed_beside other low' high' p n laid.is_text.0);
          short = closed_short p n laid.is_text.0;
          at_home = record { points = refl; high = tt; small = omega (arith, high) };
          count = i + 4;
          few = omega (arith, few_first);
          runs = then_runs x.live (all_procs x) runs made.runs;
        }

    -- of no text
    pub empty_handle : (k : List WordInstr) → HasHandleAt from (no_text_code from k) k (Static from) []
    empty_handle k =
        let l2 : List WordInstr = handle_code from k in
        let l1 : List WordInstr = Constant SECOND 0 ∷ l2 in
        let v1 : Vars = put g.call.vars FIRST 0 in
        let v2 : Vars = put v1 SECOND 0 in
        let made = handle_made x.law x.live (all_procs x) (within x.table x.blocks g) refl from here (omega (arith, high)) k g.words g.memory v2 refl
        y.memory.sized may_have 0 0 (omega arith) (omega arith)
        (put_other v1 SECOND 0 FIRST (λ e. absurd (omega (arith, e))) ∙ put_here g.call.vars FIRST 0 (omega arith)) (put_here v1 SECOND 0 (omega arith)) in
        record {
          vars = made.vars;
          same = same_more g.call.vars v1 made.vars (same_first g.call.vars 0) (same_more v1 v2 made.vars (same_second v1 0) made.same);
          memory = made.memory;
          told = told_handle x said.least (sites_of g) g.memory made.memory y.memory from low high (wide g.memory made.memory made.rewritten);
          only = wide g.memory made.memory made.rewritten;
          address = here;
          text_at = record {
            source = Outside 0 [];
            all = tt;
            bytes = refl;
            handle = made.handle;
            few = omega arith;
            is = (tt, omega arith, refl, record { heap = inr (omega arith); words = inr (omega arith); room = inr (omega arith) });
          };
          beside = λ other low' high' apart. (here_beside other apart, inl (omega arith));
          short = omega arith;
          at_home = record { points = refl; high = tt; small = omega (arith, high) };
          count = 2 + 4;
          few = omega arith;
          runs = then_runs x.live (all_procs x)
              (then_runs x.live (all_procs x) (run_constant x.live (all_procs x) (within x.table x.blocks g) g.memory l1 g.call.vars g.words FIRST 0)
              (run_constant x.live (all_procs x) (within x.table x.blocks g) g.memory l2 v1 g.words SECOND 0)) made.runs;
        }

    -- of a literal
    pub literal_handle : (t : ℕ) (v : Value) (s : IsTextual x.table x.blocks (house g.call.site (of_value t)))
        (l : IsLiteral (body_of g) s.behind s.bytes v)
        → ((text : List ℕ) → is_member same_text (lines_texts (lines_of (body_of g))) text ≡ true → AreBytes text) → (k : List WordInstr)
        → HasHandleAt from (literal_text (around x.table x.blocks (body_of g)) from (house g.call.site (of_value t)).alias k) k (Static from)
        (text_of g.world v)
    literal_handle t v s l letters k =
        let place : ℕ = literal_at (around x.table x.blocks (body_of g)) (length l.before) (length l.text) in
        let p : ℕ = data_at + place in
        let n : ℕ = length l.text in
        let laid : LaidAt x place l.text = said.literals.literal (body_of g) y.linked.0 l.before l.text l.after l.whole l.among in
        let small = laid.small in
        let l2 : List WordInstr = handle_code from k in
        let l1 : List WordInstr = Constant SECOND n ∷ l2 in
        let v1 : Vars = put g.call.vars FIRST p in
        let v2 : Vars = put v1 SECOND n in
        let code : Datum FIRST place ∷ l1 ≡ literal_text (around x.table x.blocks (body_of g)) from (house g.call.site (of_value t)).alias k
        = ap₂ (λ i j. Datum FIRST (literal_at (around x.table x.blocks (body_of g)) i j) ∷ Constant SECOND j ∷ l2) l.at l.size
        ∙ sym (ap (λ a. literal_text (around x.table x.blocks (body_of g)) from a k) s.is) in
        subst (λ c. HasHandleAt from c k (Static from) (text_of g.world v)) code
        (subst (HasHandleAt from (Datum FIRST place ∷ l1) k (Static from)) (sym (ap (text_of g.world) l.is))
        (laid_handle place l.text laid (letters l.text l.among) (Datum FIRST place ∷ l1) k v2
        (same_more g.call.vars v1 v2 (same_first g.call.vars p) (same_second v1 n))
        (put_other v1 SECOND n FIRST (λ e. absurd (omega (arith, e))) ∙ put_here g.call.vars FIRST p (omega (arith, small)))
        (put_here v1 SECOND n (omega (arith, small))) 2 (omega arith)
        (then_runs x.live (all_procs x)
        (address_runs x.law x.live (all_procs x) (within x.table x.blocks g) refl g.words g.memory l1 g.call.vars FIRST (Static place) p refl)
        (run_constant x.live (all_procs x) (within x.table x.blocks g) g.memory l2 v1 g.words SECOND n))))

    -- of a character, which is put behind the handle
    pub letter_handle : (u letter : ℕ) → letter < 256 → OWN_FROM ≤ u → g.call.vars u ≡ Some letter → (k : List WordInstr)
        → HasHandleAt from (letter_code from u k) k (Static from) (letter ∷ [])
    letter_handle u letter small up is k =
        let p : ℕ = here + 8 in
        let l2 : List WordInstr = handle_code from k in
        let l1 : List WordInstr = Constant SECOND 1 ∷ l2 in
        let next : p ≡ data_at + (from + 8) = omega arith in
        let may : may_put g.memory p Byte ≡ true
        = ap (λ a. may_put g.memory a Byte) next ∙ handle_there x (sites_of g) g.memory y.memory said.least (from + 8) Byte (omega (arith, high))
        (eq-eqb ((data_at + (from + 8)) % 1) 0 (omega arith)) in
        let m1 : Memory = with_number g.memory p Byte letter in
        let written = store_rewritten x.law g.memory p Byte letter y.memory.sized may in
        let v1 : Vars = put g.call.vars FIRST p in
        let v2 : Vars = put v1 SECOND 1 in
        let first_told : IsTold x said.least (sites_of g) g.memory m1
        = told_handle x said.least (sites_of g) g.memory m1 y.memory from low high
        (record { sizes = written.sizes; beside = λ b i h. written.beside b i (last b i h) }) in
        let made = handle_made x.law x.live (all_procs x) (within x.table x.blocks g) refl from here (omega (arith, high)) k g.words m1 v2 refl
        first_told.good.sized (may_then m1 first_told) p 1 (omega (arith, high)) (omega arith)
        (put_other v1 SECOND 1 FIRST (λ e. absurd (omega (arith, e))) ∙ put_here g.call.vars FIRST p (omega (arith, high)))
        (put_here v1 SECOND 1 (omega arith)) in
        let only : IsRewritten g.memory made.memory here 12
        = record {
          sizes = sizes_more g.memory m1 made.memory written.sizes made.rewritten.sizes;
          beside = λ b i h. made.rewritten.beside b i (front b i h) ∙ written.beside b i (last b i h);
        } in
        let told : IsTold x said.least (sites_of g) g.memory made.memory
        = told_handle x said.least (sites_of g) g.memory made.memory y.memory from low high only in
        record {
          vars = made.vars;
          same = same_more g.call.vars v1 made.vars (same_first g.call.vars p) (same_more v1 v2 made.vars (same_second v1 1) made.same);
          memory = made.memory;
          told = told;
          only = only;
          address = here;
          beside = λ other low' high' apart. (here_beside other apart, letter_beside other apart);
          text_at = record {
            source = Outside p (letter ∷ []);
            all = tt;
            bytes = refl;
            handle = made.handle;
            few = omega arith;
            is = (
              (small, tt),
              omega (arith, high),
              made.rewritten.beside p 1 (inr (omega arith)) ∙ store_here x.law g.memory p Byte letter y.memory.sized may ∙ ap Some (one_byte letter small),
              record { heap = inr (omega (arith, high)); words = inl (omega arith); room = inl (omega arith) },
            );
          };
          short = omega arith;
          at_home = record { points = refl; high = tt; small = omega (arith, high) };
          count = 1 + (1 + (1 + 4));
          few = omega arith;
          runs = then_runs x.live (all_procs x)
              (address_runs x.law x.live (all_procs x) (within x.table x.blocks g) refl g.words g.memory (Store FIRST u Byte ∷ l1) g.call.vars FIRST
              (Static (from + 8)) p next)
              (then_runs x.live (all_procs x) (run_store x.live (all_procs x) (within x.table x.blocks g) g.memory l1 v1 g.words FIRST u Byte
              (put_here g.call.vars FIRST p (omega (arith, high))) (put_low g.call.vars FIRST p u (omega arith) up ∙ is) may)
              (then_runs x.live (all_procs x) (run_constant x.live (all_procs x) (within x.table x.blocks g) m1 l2 v1 g.words SECOND 1) made.runs));
        }
      where
        last : (b i : ℕ) → Beside b i here 12 → Beside b i (here + 8) 1
        last b i (inl h) = inl (omega (arith, h))
        last b i (inr h) = inr (omega (arith, h))

        front : (b i : ℕ) → Beside b i here 12 → Beside b i here 8
        front b i (inl h) = inl h
        front b i (inr h) = inr (omega (arith, h))

        may_then : (m : Memory) → IsTold x said.least (sites_of g) g.memory m → MayHave m here
        may_then m told =
            let next : here + 4 ≡ data_at + (from + 4) = omega arith in (
              handle_there x (sites_of g) m told.good said.least from Word (omega (arith, high)) (eq-eqb (here % 4) 0 (omega (arith, whole))),
              ap (λ a. may_put m a Word) next
                  ∙ handle_there x (sites_of g) m told.good said.least (from + 4) Word (omega (arith, high))
                  (eq-eqb ((data_at + (from + 4)) % 4) 0 (omega (arith, whole))),
            )

  -- ---- by what the operand's type is

  module _ (from : ℕ) (low : LEFT_HANDLE_AT ≤ from) (high : from + 12 ≤ FIXED_BYTES) (whole : from % 4 ≡ 0) (t ty : ℕ) (v : Value)
      (typed : type_in x is_value (body_of g) t ≡ Some (type_at (types_in x.table) ty)) (e : g.call.temps.values t ≡ Some v) (k : List WordInstr) where
    abbrev around_here : Around
    around_here = around x.table x.blocks (body_of g)

    abbrev housed : Housed
    housed = house g.call.site (of_value t)

    abbrev shape : Shape
    shape = shape_of (facts_in x.table) (type_at (types_in x.table) ty)

    abbrev Here : Option TypeDef → Type 0
    Here entry = HasHandleAt from (owned.entry_text around_here from entry housed k) k (owned.entry_home from entry housed) (entry_text g.world entry v)

    -- in words of the line and of the meaning
    pub as_operand : Here (entry_at x.table ty) → HasHandleAt from (owned.text_made around_here from (Some ty) housed k) k
        (owned.text_home around_here from (Some ty) housed) (shown_text (facts_in x.table) g.world (Some (type_at (types_in x.table) ty)) v)
    as_operand h =
        subst (HasHandleAt from (owned.text_made around_here from (Some ty) housed k) k (owned.text_home around_here from (Some ty) housed))
        (sym (said.texts g.world ty v)) h

    pub char_here : shape ≡ number (Some 256) → Here (Some D.Char)
    char_here is =
        let s = small x said g line rest y t ty v typed e k g.world 256 is in
        let text : s.0 ∷ [] ≡ low_byte (number_of v) ∷ [] = ap (λ b. b ∷ []) (sym (ap low_byte s.1 ∙ small_byte s.0 s.2)) in
        subst (HasHandleAt from (letter_code from (variable_of housed) k) k (Static from)) text
        (letter_handle from low high whole (variable_of housed) s.0 s.2 (read x said g line rest y t ty v typed e k g.world (Some 256) is).high
        (small_word x said g line rest y t ty v typed e k g.world 256 is) k)

    pub text_here : shape ≡ block → IsText (is_fixed g.ground) v → is_whole g.world v ≡ true → AreBytes g.memory.heap → FixedThere (is_fixed g.ground) g.memory
        → FixedClosed → ((text : List ℕ) → is_member same_text (lines_texts (lines_of (body_of g))) text ≡ true → AreBytes text) → Here (Some D.Text)
    text_here is text seen are fixed closed letters = by (y.linked.0.values t named)
      where
        has : HasType x g.call.site (of_value t) (type_at (types_in x.table) ty)
        has = has_type x g.call.site (of_value t) (type_at (types_in x.table) ty) y.linked.0 typed

        named : IsNamed g.call.site (of_value t)
        named = has.named

        look : looked x.table g.call.site (of_value t) ≡ block
        look = look_of x g.call.site (of_value t) (type_at (types_in x.table) ty) has ∙ is

        inside : IsThere g.call.site (of_value t) → InMemory housed.home
        inside there = by (houses x.table x.blocks g.call.site (of_value t) y.linked.0 there).where_is
          where
            by : Housing (room (body_of g)) FIXED_BYTES (data_end x.table x.blocks) (body_of g).start housed → InMemory housed.home
            by (in_variable u home plain least word) =
                never (sym (ap is_one_word look) ∙ ((houses x.table x.blocks g.call.site (of_value t) y.linked.0 there).word ∙ word))
            by (by_address u home address least) = never (sym (value_plain housed there.kind) ∙ address)
            by (in_places a home plain is least) = subst InMemory (sym home) tt
            by (in_data a home plain is least most start) = subst InMemory (sym home) tt

        by : (housed.alias ≡ alias.Own) ⊎ IsTextual x.table x.blocks housed → Here (Some D.Text)
        by (inl own) =
            let there : IsThere g.call.site (of_value t) = with_home x named own tt in
            subst (λ a. HasHandleAt from (literal_text around_here from a k) k (owned.literal_home from a housed.home) (text_of g.world v)) (sym own)
            (own_handle from t v there (inside there) look e text seen are fixed closed k)
        by (inr s) =
            subst (λ a. HasHandleAt from (literal_text around_here from housed.alias k) k (owned.literal_home from a housed.home) (text_of g.world v))
            (sym s.is)
            (literal_handle from low high whole t v s (y.hold.0.texts t s.behind s.bytes v named s.is e) letters k)
