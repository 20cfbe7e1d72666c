-- Chains of calls as they are computed are those of the definition.
use Rattle.std.proofs.Common.{◌≡◌, ℕ, zero, suc, ◌+◌, ◌-◌, ◌*◌, ◌/◌, ◌^◌, ◌<◌, ◌≤◌, List, [], ◌∷◌}
use Rattle.std.proofs.Common.{length, Bool, true, false, Option, Some, None}
use Rattle.std.proofs.Common.{refl, sym, ap, subst, ◌∙◌, arith, inl, inr, drop, get_or}
use Rattle.std.specs.Prelude.{nat_eq, ◌==◌, if◌then◌else◌}
use Rattle.std.specs.HashMap.{HashMap, get}
use Rattle.std.specs.Map.{lookup}
use Rattle.std.proofs.lemmas.Bool.{cases_Bool, cond-true, cond-false}
use Rattle.std.proofs.lemmas.List.{drop_more, drop_all}
use Rattle.word_code.specs.declared.word.TheConstants.{MOST_ARGUMENTS, SPARE_ROOM}
use Rattle.word_code.specs.declared.word.WordInstr.{WordInstr}
use Rattle.word_code.specs.declared.word.WordProc.{WordProc}
use Rattle.word_code.specs.Words.{is_counted, most_calls, from_proc, callee_of, taken_for, most_called, most_chain, uncounted, chain, longest}
use Rattle.reg_scan.specs.declared.homes.Homes.{Homes}
use Rattle.rv32_codegen.specs.Stack.{frame_for, call_size, most_size, stack_need}
use Rattle.rv32_codegen.specs.Chains.{cut, number_for, chain_from, chains_from, most_of, sizes_of, none_of, cut_chain}
use Rattle.rv32_codegen.specs.Chains.{AreLongest, taken_at, by_index, LeadsFrom, IsIndex}
use Rattle.rv32_codegen.specs.Chains.{IsCallSize}
use Rattle.rv32_codegen.specs.Lowering.{AllHomes}
use Rattle.rv32_codegen.proofs.Lookups.{nil_cons, here, later, number_is}

-- ---- rounds

module _ (procs : List WordProc) (sizes : List ℕ) where
  abbrev after : ℕ → ℕ → ℕ
  after k = cut_chain procs sizes k

  -- where one round more changes nothing, none does
  fixed : (k : ℕ) → ((n : ℕ) → after (suc k) n ≡ after k n) → (d n : ℕ) → after (d + k) n ≡ after k n
  fixed k h zero n = ap (λ d. after d n) (let e : 0 + k ≡ k = omega arith in e)
  fixed k h (suc d) n =
      ap (λ m. after m n) (let e : suc d + k ≡ suc (d + k) = omega arith in e)
      ∙ ap (λ f. number_for procs (chains_from f procs sizes) n) (λ i m. fixed k h d m i) ∙ h n

  pub next_round : (k : ℕ) (taken : List ℕ) → ((n : ℕ) → number_for procs taken n ≡ after k n) → (n : ℕ) →
      number_for procs (chains_from (number_for procs taken) procs sizes) n ≡ after (suc k) n
  next_round k taken h n = ap (λ f. number_for procs (chains_from f procs sizes) n) (λ i m. h m i)

  pub settled : (k : ℕ) (taken : List ℕ) → k ≤ length procs → ((n : ℕ) → number_for procs taken n ≡ after k n) →
      chains_from (number_for procs taken) procs sizes ≡ taken → (n : ℕ) → number_for procs taken n ≡ after (length procs) n
  settled k taken le h same n =
      let once : (m : ℕ) → after (suc k) m ≡ after k m = λ m. sym (next_round k taken h m) ∙ ap (λ l. number_for procs l m) same ∙ h m in
      let all : length procs - k + k ≡ length procs = omega (arith, le) in
      h n ∙ sym (fixed k once (length procs - k) n) ∙ ap (λ d. after d n) all

  pub none_number : (n : ℕ) (ps : List WordProc) → number_for ps (none_of ps) n ≡ 0
  none_number n [] = refl
  none_number n (p ∷ ps) = ap (λ m. if p.number == n then 0 else m) (none_number n ps) ∙ same_if (p.number == n) 0
    where
      same_if : (b : Bool) (x : ℕ) → (if b then x else x) ≡ x
      same_if true x = refl
      same_if false x = refl

pub length-none : (procs : List WordProc) → length (none_of procs) ≡ length procs
length-none [] = refl
length-none (p ∷ procs) = ap suc (length-none procs)

pub length-chains : (taken : ℕ → ℕ) (procs : List WordProc) (sizes : List ℕ) → length sizes ≡ length procs →
    length (chains_from taken procs sizes) ≡ length procs
length-chains taken [] sizes e = refl
length-chains taken (p ∷ procs) [] e = absurd (omega (arith, e))
length-chains taken (p ∷ procs) (n ∷ sizes) e = ap suc (length-chains taken procs sizes (omega (arith, e)))

-- ---- what is cut

cut_less : (n : ℕ) → cut n ≤ 2 ^ 32 - 1
cut_less n = omega arith

for_cut : (f : ℕ → ℕ) (o : Option ℕ) → taken_for (λ n. cut (f n)) o ≡ cut (taken_for f o)
for_cut f None = refl
for_cut f (Some n) = refl

most_cut : (f : ℕ → ℕ) (lines : List WordInstr) → most_called (λ n. cut (f n)) lines ≡ cut (most_called f lines)
most_cut f [] = refl
most_cut f (l ∷ lines) = omega (arith, for_cut f (callee_of l), most_cut f lines)

chain_cut : (f : ℕ → ℕ) (procs : List WordProc) → most_chain (λ n. cut (f n)) procs ≡ cut (most_chain f procs)
chain_cut f [] = refl
chain_cut f (p ∷ procs) = omega (arith, most_cut f p.lines, chain_cut f procs)

-- ---- the definition

abbrev found_chain : (taken : ℕ → ℕ) → List WordProc → ℕ → ℕ
found_chain taken [] size = 0
found_chain taken (q ∷ tail) size = chain_from taken size q

look_chains : (taken : ℕ → ℕ) (n : ℕ) (procs : List WordProc) (sizes : List ℕ) → length sizes ≡ length procs →
    number_for procs (chains_from taken procs sizes) n ≡ found_chain taken (from_proc n procs) (number_for procs sizes n)
look_chains taken n [] sizes e = refl
look_chains taken n (p ∷ procs) [] e = absurd (omega (arith, e))
look_chains taken n (p ∷ procs) (size ∷ sizes) e =
    let own = chain_from taken size p in
    let more = number_for procs (chains_from taken procs sizes) n in
    elim (cases_Bool (p.number == n)) [
      | inl t ↦
          cond-true (p.number == n) own more t
          ∙ sym (ap (λ l. found_chain taken l (number_for (p ∷ procs) (size ∷ sizes) n))
          (cond-true (p.number == n) (p ∷ procs) (from_proc n procs) t)
          ∙ ap (λ k. chain_from taken k p) (cond-true (p.number == n) size (number_for procs sizes n) t))
      | inr f ↦
          cond-false (p.number == n) own more f
          ∙ look_chains taken n procs sizes (omega (arith, e))
          ∙ sym (ap (λ l. found_chain taken l (number_for (p ∷ procs) (size ∷ sizes) n))
          (cond-false (p.number == n) (p ∷ procs) (from_proc n procs) f)
          ∙ ap (found_chain taken (from_proc n procs)) (cond-false (p.number == n) size (number_for procs sizes n) f))
    ]

-- the sizes are those of the first procedures of each number, cut
abbrev pub AreSizes : List WordProc → List ℕ → (WordProc → ℕ) → Type 0
AreSizes procs sizes size = (n : ℕ) (q : WordProc) (tail : List WordProc) → from_proc n procs ≡ q ∷ tail → number_for procs sizes n ≡ cut (size q)

module _ (procs : List WordProc) (sizes : List ℕ) (size : WordProc → ℕ) (long : length sizes ≡ length procs) (are : AreSizes procs sizes size) where
  cut_found : (f : ℕ → ℕ) (n : ℕ) (found : List WordProc) → from_proc n procs ≡ found →
      found_chain (λ m. cut (f m)) found (number_for procs sizes n) ≡ cut (uncounted size f found)
  cut_found f n [] e = refl
  cut_found f n (q ∷ tail) e =
      let k = number_for procs sizes n in
      let is = are n q tail e in
      by_count (is_counted q.kind) k (size q) (most_called (λ m. cut (f m)) q.lines) (most_called f q.lines) is (most_cut f q.lines)
    where
      by_count : (b : Bool) (k s a m : ℕ) → k ≡ cut s → a ≡ cut m → (if b then 0 else cut (k + a)) ≡ cut (if b then 0 else s + m)
      by_count true k s a m e d = refl
      by_count false k s a m e d = omega (arith, e, d)

  pub cut_is : (k n : ℕ) → cut_chain procs sizes k n ≡ cut (chain procs size k n)
  cut_is zero n = refl
  cut_is (suc k) n =
      ap (λ f. number_for procs (chains_from f procs sizes) n) (λ i m. cut_is k m i)
      ∙ look_chains (λ m. cut (chain procs size k m)) n procs sizes long
      ∙ cut_found (chain procs size k) n (from_proc n procs) refl

  -- so is the longest
  pub longest_cut : most_chain (cut_chain procs sizes (length procs)) procs ≡ cut (longest procs size)
  longest_cut = ap (λ f. most_chain f procs) (λ i n. cut_is (length procs) n i) ∙ chain_cut (chain procs size (length procs)) procs

-- ---- sizes

pub length-sizes : (procs : List WordProc) (homes : List Homes) → AllHomes procs homes → length (sizes_of procs homes) ≡ length procs
length-sizes [] homes h = refl
length-sizes (p ∷ procs) [] h = absurd h
length-sizes (p ∷ procs) (x ∷ homes) h = ap suc (length-sizes procs homes h.1)

-- there are as many homes as procedures
pub same_long : (procs : List WordProc) (homes : List Homes) → AllHomes procs homes → length homes ≡ length procs
same_long [] [] h = refl
same_long [] (x ∷ homes) h = absurd h
same_long (p ∷ procs) [] h = absurd h
same_long (p ∷ procs) (x ∷ homes) h = ap suc (same_long procs homes h.1)

-- the first procedure of a number has the frame and the room of that number
size_found : (procs : List WordProc) (homes : List Homes) → AllHomes procs homes → (n : ℕ) (q : WordProc) (tail : List WordProc) →
    from_proc n procs ≡ q ∷ tail → number_for procs (sizes_of procs homes) n ≡ cut (frame_for procs homes n + q.room)
size_found [] homes h n q tail e = absurd (nil_cons q tail e)
size_found (p ∷ procs) [] h n q tail e = absurd h
size_found (p ∷ procs) (x ∷ homes) h n q tail e = elim (cases_Bool (p.number == n)) [
  | inl t ↦
      cond-true (p.number == n) (cut (x.frame + p.room)) (number_for procs (sizes_of procs homes) n) t
      ∙ ap (λ r. cut (x.frame + r.room)) (here n p procs q tail t e).first
      ∙ sym (ap (λ f. cut (f + q.room)) (cond-true (p.number == n) x.frame (frame_for procs homes n) t))
  | inr f ↦
      cond-false (p.number == n) (cut (x.frame + p.room)) (number_for procs (sizes_of procs homes) n) f
      ∙ size_found procs homes h.1 n q tail (later n p procs q tail f e)
      ∙ sym (ap (λ k. cut (k + q.room)) (cond-false (p.number == n) x.frame (frame_for procs homes n) f))
]

are_sizes : (procs : List WordProc) (homes : List Homes) → AllHomes procs homes → AreSizes procs (sizes_of procs homes) (call_size procs homes)
are_sizes procs homes h n q tail e =
    size_found procs homes h n q tail e ∙ ap (λ m. cut (frame_for procs homes m + q.room)) (sym (number_is n procs q tail e))

most_sizes : (procs : List WordProc) (homes : List Homes) → most_of (sizes_of procs homes) ≡ cut (most_size procs homes)
most_sizes [] homes = refl
most_sizes (p ∷ procs) [] = refl
most_sizes (p ∷ procs) (x ∷ homes) = let more = most_sizes procs homes in omega (arith, more)

-- ---- the whole

module _ (procs : List WordProc) (homes : List Homes) (all : AllHomes procs homes) where
  size_is : (size : ℕ) → IsCallSize procs (sizes_of procs homes) size → size ≡ cut (most_size procs homes) + cut (longest procs (call_size procs homes))
  size_is size h =
      let a = longest_cut procs (sizes_of procs homes) (call_size procs homes) (length-sizes procs homes all) (are_sizes procs homes all) in
      omega (arith, h.is, a, most_sizes procs homes)

  need_is : (size : ℕ) → stack_need procs homes ≤ 268435456 → IsCallSize procs (sizes_of procs homes) size →
      (most_calls * size + (SPARE_ROOM + 4 * MOST_ARGUMENTS) + 15) / 16 * 16 ≡ stack_need procs homes
  need_is size most h = let a = size_is size h in omega (arith, most, a)

-- ---- steps of loops

-- what is taken of the first procedure of each number, by an index of them
module _ {S : Type 0} (procs : List WordProc) where
  pub first_leads : (index : HashMap ℕ ℕ S) → index.entries ≡ [] → LeadsFrom index (length procs) procs
  first_leads index e taken same n =
      ap (λ es. taken_at taken (lookup (nat_eq n) es)) e
      ∙ sym (ap (λ ps. number_for ps (drop (length procs) taken) n) (drop_all (length procs) procs (omega arith)))

  -- one procedure before those that are left
  pub next_leads : (i : ℕ) (p d : WordProc) (old new : HashMap ℕ ℕ S) → i < length procs → p ≡ get_or procs i d
      → ((n : ℕ) → get nat_eq new n ≡ (if nat_eq p.number n then Some i else get nat_eq old n)) → LeadsFrom old (i + 1) procs → LeadsFrom new i procs
  next_leads i p d old new lt e put leads taken same n =
      ap (taken_at taken) (put n) ∙ by (nat_eq p.number n) refl ∙ sym is
    where
      t : ℕ
      t = get_or taken i 0

      is : number_for (drop i procs) (drop i taken) n ≡ (if nat_eq p.number n then t else number_for (drop (i + 1) procs) (drop (i + 1) taken) n)
      is =
          ap (λ (ps : List WordProc). number_for ps (drop i taken) n) (drop_more procs i d lt ∙ ap (λ (y : WordProc). y ∷ drop (i + 1) procs) (sym e))
          ∙ ap (λ (ts : List ℕ). number_for (p ∷ drop (i + 1) procs) ts n) (drop_more taken i 0 (omega (arith, lt, same)))

      by : (b : Bool) → nat_eq p.number n ≡ b → taken_at taken (if b then Some i else get nat_eq old n)
          ≡ (if nat_eq p.number n then t else number_for (drop (i + 1) procs) (drop (i + 1) taken) n)
      by true s = sym (ap (λ b. if b then t else number_for (drop (i + 1) procs) (drop (i + 1) taken) n) s)
      by false s = leads taken same n ∙ sym (ap (λ b. if b then t else number_for (drop (i + 1) procs) (drop (i + 1) taken) n) s)

pub same_taken : {S : Type 0} (index : HashMap ℕ ℕ S) (procs : List WordProc) (taken : List ℕ) → IsIndex index procs → length taken ≡ length procs
    → by_index index taken ≡ number_for procs taken
same_taken index procs taken h same = λ i n. h taken same n i

-- what a call takes
pub call_is : (procs : List WordProc) (sizes taken : List ℕ) (most chain : ℕ) → AreLongest procs sizes taken → most ≡ most_of sizes →
    chain ≡ most_chain (number_for procs taken) procs → most < 2 ^ 32 → chain < 2 ^ 32 → IsCallSize procs sizes (most + chain)
call_is procs sizes taken most chain h a b few less =
    let c = b ∙ ap (λ f. most_chain f procs) (λ i n. h.are n i) in
    record { is = omega (arith, a, c); small = omega (arith, few, less) }

-- the sum that is computed
pub need_at : (procs ps : List WordProc) (homes : List Homes) (sizes : List ℕ) (calls size spare arguments : ℕ) → AllHomes procs homes →
    stack_need procs homes ≤ 268435456 → ps ≡ procs → sizes ≡ sizes_of procs homes → IsCallSize ps sizes size →
    calls + 1 ≡ most_calls → spare + 4 * arguments ≡ SPARE_ROOM + 4 * MOST_ARGUMENTS →
    ((calls + 1) * size + (spare + 4 * arguments) + 15) / 16 * 16 ≡ stack_need procs homes
need_at procs ps homes sizes calls size spare arguments all most same are h c d =
    let h' = subst (λ l. IsCallSize l (sizes_of procs homes) size) same (subst (λ r. IsCallSize ps r size) are h) in
    ap (λ n. (n * size + (spare + 4 * arguments) + 15) / 16 * 16) c
    ∙ ap (λ n. (most_calls * size + n + 15) / 16 * 16) d
    ∙ need_is procs homes all size most h'
