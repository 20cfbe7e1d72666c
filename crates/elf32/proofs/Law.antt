-- Bytes are one file at most, have one fault at most, and never both.
use Rattle.std.proofs.Common.{◌≡◌, ◌<◌, ◌≤◌, ℕ, zero, suc, List, take, length, refl, sym, ap, ◌∙◌, ◌⊎◌, inl, inr, arith}
use Rattle.std.proofs.lemmas.Bool.{cases_lt}
use Rattle.elf32.specs.declared.file.ElfFault.{ElfFault}
use Rattle.elf32.specs.declared.file.ElfFault.TheVariants.{Short, Magic, Class, FileType, Machine, Header, Segment, Note}
use Rattle.rv32_isa.specs.Words.{word_bytes}
use Rattle.elf32.specs.Elf.{File, Elf, header}
use Rattle.elf32.specs.Faults.{fault_number, Fits, HasFault}
use Rattle.elf32.proofs.Faulty.{part_there}
use Rattle.elf32.proofs.Segments.{Sized, file_sized, file_segments}

-- the header has 52 bytes
pub whole_header : take 52 header ≡ header
unfolding word_bytes
whole_header = refl

long_enough : (bytes : List ℕ) (file : File) → Elf bytes file → 212 ≤ length bytes
long_enough bytes file elf = let sized : Sized bytes file = file_sized bytes file elf in omega (arith, sized.sizes.whole)

-- each part of a file is as in a file
pub file_fits : (bytes : List ℕ) (file : File) (fault : ElfFault) → Elf bytes file → Fits fault bytes
file_fits bytes file Short elf = long_enough bytes file elf
file_fits bytes file Magic elf = part_there 4 bytes (omega arith) (file_sized bytes file elf).header_is
file_fits bytes file Class elf = part_there 16 bytes (omega arith) (file_sized bytes file elf).header_is
file_fits bytes file FileType elf = part_there 18 bytes (omega arith) (file_sized bytes file elf).header_is
file_fits bytes file Machine elf = part_there 20 bytes (omega arith) (file_sized bytes file elf).header_is
file_fits bytes file Header elf = (file_sized bytes file elf).header_is
file_fits bytes file Segment elf = file_segments bytes file elf
file_fits bytes file Note elf = record { file = file; elf = elf }

pub never_both : (bytes : List ℕ) (file : File) (fault : ElfFault) → Elf bytes file → HasFault bytes fault → ⊥
never_both bytes file fault elf bad = bad.differs (file_fits bytes file fault elf)

-- the numbers tell the faults apart
abbrev fault_by_number : ℕ → ElfFault
fault_by_number (suc zero) = Short
fault_by_number (suc (suc zero)) = Magic
fault_by_number (suc (suc (suc zero))) = Class
fault_by_number (suc (suc (suc (suc zero)))) = FileType
fault_by_number (suc (suc (suc (suc (suc zero))))) = Machine
fault_by_number (suc (suc (suc (suc (suc (suc zero)))))) = Header
fault_by_number (suc (suc (suc (suc (suc (suc (suc zero))))))) = Segment
fault_by_number _ = Note

numbered : (fault : ElfFault) → fault_by_number (fault_number fault) ≡ fault
numbered Short = refl
numbered Magic = refl
numbered Class = refl
numbered FileType = refl
numbered Machine = refl
numbered Header = refl
numbered Segment = refl
numbered Note = refl

same_number : (m n : ℕ) → (m < n → ⊥) → (n < m → ⊥) → m ≡ n
same_number m n not_less not_more = by (cases_lt m n) (cases_lt n m) where
  by : (m < n) ⊎ (n ≤ m) → (n < m) ⊎ (m ≤ n) → m ≡ n
  by (inl less) _ = absurd (not_less less)
  by (inr most) (inl less) = absurd (not_more less)
  by (inr most) (inr least) = omega (arith, most, least)

pub one_fault : (bytes : List ℕ) (a b : ElfFault) → HasFault bytes a → HasFault bytes b → a ≡ b
one_fault bytes a b bad_a bad_b =
    let same : fault_number a ≡ fault_number b = same_number _ _ (λ less. bad_a.differs (bad_b.before a less)) (λ less. bad_b.differs (bad_a.before b less)) in
    sym (numbered a) ∙ ap fault_by_number same ∙ numbered b
