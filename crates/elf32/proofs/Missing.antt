-- Where the reader of a list stops, no list stands.
use Rattle.std.proofs.Common.{◌≡◌, ◌<◌, ◌≤◌, ◌^◌, ℕ, ◌*◌, ◌/◌, List, [], ◌∷◌, ◌++◌, length, refl, sym, ap, ◌∙◌, append_assoc, arith}
use Rattle.std.proofs.lemmas.List.{length-append}
use Rattle.std.proofs.Math.Nat.{div-lt_iff_lt-mul, mul_comm}
use Rattle.std.specs.List.{flat_map}
use Rattle.nim_plan.specs.declared.plan.Act.{Act}
use Rattle.nim_plan.specs.declared.plan.Act.TheVariants.{Copy, Move, Final, Borrow}
use Rattle.nim_plan.specs.declared.plan.SiteAct.{SiteAct}
use Rattle.rv32_isa.specs.Words.{word_bytes}
use Rattle.elf32.specs.declared.file.ElfStop.{ElfStop}
use Rattle.elf32.specs.declared.file.ElfStop.TheVariants.{Bad, Memory}
use Rattle.elf32.specs.declared.file.ElfFault.TheVariants.{Note}
use Rattle.elf32.specs.Elf.{words, site_words, act_number}
use Rattle.elf32.specs.Reading.{Because, ListsNone, CountsNone}
use Rattle.elf32.proofs.FilesWords.{past_word, word_only}
use Rattle.elf32.proofs.ItemLists.{Next, next_item, lists_none}

-- fewer bytes than a count has
pub counts_short : (size : ℕ) (here : List ℕ) → length here < 4 → CountsNone size here
unfolding word_bytes
counts_short size here short count behind fits same room =
    let long : length here ≡ length (word_bytes count ++ behind) = ap length same in
    let four : length (word_bytes count) ≡ 4 = refl in
    omega (arith, short, long, four, length-append (word_bytes count) behind)

-- a count that has no room
pub counts_crowded : (size n : ℕ) (here rest : List ℕ) → n < 2 ^ 32 → here ≡ word_bytes n ++ rest → length rest < size * n → CountsNone size here
counts_crowded size n here rest fits_n there crowded count behind fits same room =
    let one : (n ≡ count) × (rest ≡ behind) = word_only n count rest behind fits_n fits (sym there ∙ same) in
    let more : length rest < size * count = rw (sym one.0) crowded in
    let long : length rest ≡ length behind = ap length one.1 in
    omega (arith, more, long, room)

pub over : (left size n : ℕ) → 0 < size → left / size < n → left < size * n
over left size n some less = rw (mul_comm size n) ((div-lt_iff_lt-mul some).0 less)

-- for the same reason
pub because_lists : {A : Type 0} (f : A → List ℕ) (size bytes : ℕ) (here : List ℕ) (stop : ElfStop) → ((x : A) → length (f x) ≡ size) → bytes ≡ 4 * size
    → Because stop Note (CountsNone bytes here) → Because stop Note (ListsNone f here)
because_lists f size bytes here (Bad fault) sized four why = (why.0, lists_none f size bytes here sized four why.1)
because_lists f size bytes here Memory sized four why = why

pub act_small : (act : Act) → act_number act < 4
act_small Copy = omega arith
act_small Move = omega arith
act_small Final = omega arith
act_small Borrow = omega arith

two_words : (m n : ℕ) (rest : List ℕ) → words (m ∷ n ∷ []) ++ rest ≡ word_bytes m ++ (word_bytes n ++ rest)
unfolding word_bytes
two_words m n rest = refl

-- an act that there isn't
pub sites_stuck : (whole behind_count here first second : List ℕ) (count site number : ℕ) (sites : List SiteAct) → count < 2 ^ 32 → number < 2 ^ 32
    → whole ≡ word_bytes count ++ behind_count → behind_count ≡ words (flat_map site_words sites) ++ here → length sites < count
    → here ≡ word_bytes site ++ first → first ≡ word_bytes number ++ second → 4 ≤ number → ListsNone site_words whole
sites_stuck whole behind_count here first second count site number sites fits_count fits_number there read few one two unknown items behind fits lists =
    let all = words (flat_map site_words items) in
    let counts : (count ≡ length items) × (behind_count ≡ all ++ behind) =
    word_only count (length items) behind_count (all ++ behind) fits_count fits (sym there ∙ lists ∙ append_assoc (word_bytes (length items)) all behind) in
    let next : Next site_words here = next_item site_words 2 (λ x. refl) sites items here behind (omega (arith, few, counts.0)) (sym read ∙ counts.1) in
    by next.item next.rest next.there
  where
    by : (item : SiteAct) (rest : List ℕ) → here ≡ words (site_words item) ++ rest → ⊥
    by item rest e =
        let split : words (site_words item) ++ rest ≡ word_bytes item.site ++ (word_bytes (act_number item.act) ++ rest) =
        two_words item.site (act_number item.act) rest in
        let behind_site : first ≡ word_bytes (act_number item.act) ++ rest = past_word site item.site first _ (sym one ∙ e ∙ split) in
        let same : number ≡ act_number item.act = (word_only number (act_number item.act) second rest fits_number (omega (arith, act_small item.act))
        (sym two ∙ behind_site)).0 in
        omega (arith, same, act_small item.act, unknown)
