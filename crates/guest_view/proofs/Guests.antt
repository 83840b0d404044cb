-- From the table of a disk to its guest, or to why there is none.
use Rattle.std.proofs.Common.{◌≡◌, ℕ, ◌^◌, ◌≤◌, ◌⊎◌, inl, inr, List, arith, refl, sym, subst, ap}
use Rattle.gpt_table.proofs.Tables.{no_fault as no_gpt_fault, one_table_at_most as one_gpt}
use Rattle.gpt_table.specs.declared.fault.GptFault.{GptFault}
use Rattle.gpt_table.specs.declared.fault.GptFault.TheVariants as gpt
use Rattle.gpt_table.specs.Gpt.{HasGptFault}
use Rattle.mbr_table.proofs.Tables.{no_fault as no_mbr_fault, one_table_at_most as one_mbr}
use Rattle.mbr_table.specs.declared.fault.MbrFault.{MbrFault}
use Rattle.mbr_table.specs.declared.fault.MbrFault.TheVariants as mbr
use Rattle.mbr_table.specs.Mbr.{HasMbrFault}
use Rattle.guest_view.specs.declared.fault.InspectFault.{InspectFault}
use Rattle.guest_view.specs.declared.fault.InspectFault.TheVariants.{TooLarge, NoSignature, Entry, Chain, TooMany, NoHeader, Shape, Overlap, Device, Memory}
use Rattle.guest_view.specs.Contents.{HaveContents}
use Rattle.guest_view.specs.declared.table.Table.{Table}
use Rattle.guest_view.specs.declared.table.Table.TheVariants.{Mbr, Gpt}
use Rattle.guest_view.specs.Guests.{GuestView, HasFaultOfGpt, HasOverlap, HasOwnFault, IsGuest, IsLeftToGpt, IsNoGuest, IsTableOf, fault_of_gpt, fault_of_mbr}
use Rattle.guest_view.specs.Partitions.{AreFirstClash, HasNoClash, partitions_of}
use Rattle.guest_view.specs.inside.Sound.{IsGuestBy, IsNoGuestBy}

-- what holds of a disk by its size and its bytes holds of one with the same
pub of_same_disk : (P : ℕ → List ℕ → Type 0) (n n' : ℕ) (image image' : List ℕ) → n' ≡ n → image' ≡ image → P n' image' → P n image
of_same_disk P n n' image image' size bytes is = subst (λ (i : List ℕ). P n i) bytes (subst (λ (k : ℕ). P k image') size is)

-- the guest of the table that a disk has
pub guest_is : (sectors : ℕ) (image : List ℕ) (table : Table) (guest : GuestView) → sectors ≤ 2 ^ 31 → IsTableOf sectors image table → guest.sectors ≡ sectors
    → IsGuestBy sectors image table guest → IsGuest sectors image guest
guest_is sectors image table guest small is same of = record {
  sectors_are = same;
  small = small;
  table = subst (IsTableOf sectors image) (sym of.table_is) is;
  apart = subst (λ (t : Table). HasNoClash (partitions_of t)) (sym of.table_is) of.apart;
  contents = subst (λ (t : Table). HaveContents image (partitions_of t) guest.parts) (sym of.table_is) of.contents;
}

-- why the table that a disk has is no guest's
pub no_guest_is : (sectors : ℕ) (image : List ℕ) (table : Table) (fault : InspectFault) → sectors ≤ 2 ^ 31 → IsTableOf sectors image table → IsNoGuestBy table fault
    → IsNoGuest sectors image fault
no_guest_is sectors image table (Overlap a b) small is by = record { small = small; table = table; is_table = is; clash = by }
no_guest_is sectors image table Memory small is by = tt
no_guest_is sectors image table (TooLarge n) small is by = absurd by
no_guest_is sectors image table NoSignature small is by = absurd by
no_guest_is sectors image table (Entry number) small is by = absurd by
no_guest_is sectors image table (Chain at) small is by = absurd by
no_guest_is sectors image table (TooMany at) small is by = absurd by
no_guest_is sectors image table NoHeader small is by = absurd by
no_guest_is sectors image table (Shape count size) small is by = absurd by
no_guest_is sectors image table Device small is by = absurd by

-- what a fault of the table is of the disk
pub mbr_fault_is : (sectors : ℕ) (image : List ℕ) (fault : MbrFault) → sectors ≤ 2 ^ 31 → (IsLeftToGpt sectors image → ⊥) → HasMbrFault sectors image fault
    → IsNoGuest sectors image (fault_of_mbr fault)
mbr_fault_is sectors image mbr.NoSignature small own has = record { small = small; own = own; has = has }
mbr_fault_is sectors image (mbr.Entry number) small own has = inl (record { small = small; own = own; has = has })
mbr_fault_is sectors image (mbr.Chain at) small own has = record { small = small; own = own; has = has }
mbr_fault_is sectors image (mbr.TooMany at) small own has = record { small = small; own = own; has = has }
mbr_fault_is sectors image mbr.Device small own has = tt
mbr_fault_is sectors image mbr.Memory small own has = tt

pub gpt_fault_is : (sectors : ℕ) (image : List ℕ) (fault : GptFault) → sectors ≤ 2 ^ 31 → IsLeftToGpt sectors image → HasGptFault sectors image fault
    → IsNoGuest sectors image (fault_of_gpt fault)
gpt_fault_is sectors image gpt.NoHeader small left has = record { small = small; left = left; has = has }
gpt_fault_is sectors image (gpt.Shape count size) small left has = record { small = small; left = left; has = has }
gpt_fault_is sectors image (gpt.Entry number) small left has = inr (record { small = small; left = left; has = has })
gpt_fault_is sectors image gpt.Device small left has = tt
gpt_fault_is sectors image gpt.Memory small left has = tt

-- a disk has one table
pub one_table : (sectors : ℕ) (image : List ℕ) (a b : Table) → IsTableOf sectors image a → IsTableOf sectors image b → a ≡ b
one_table sectors image (Mbr a) (Mbr b) a-is b-is = ap Mbr (one_mbr sectors image a b a-is.1 b-is.1)
one_table sectors image (Gpt a) (Gpt b) a-is b-is = ap Gpt (one_gpt sectors image a b a-is.1 b-is.1)
one_table sectors image (Mbr a) (Gpt b) a-is b-is = absurd (a-is.0 b-is.0)
one_table sectors image (Gpt a) (Mbr b) a-is b-is = absurd (b-is.0 a-is.0)

-- a table leaves no fault of its kind
no_own_fault : (sectors : ℕ) (image : List ℕ) (table : Table) (fault : MbrFault) → IsTableOf sectors image table → HasOwnFault sectors image fault
    → (fault ≡ mbr.Device) ⊎ (fault ≡ mbr.Memory)
no_own_fault sectors image (Mbr table) fault is why = no_mbr_fault sectors image table fault is.1 why.has
no_own_fault sectors image (Gpt table) fault is why = absurd (why.own is.0)

no_fault_of_gpt : (sectors : ℕ) (image : List ℕ) (table : Table) (fault : GptFault) → IsTableOf sectors image table → HasFaultOfGpt sectors image fault
    → (fault ≡ gpt.Device) ⊎ (fault ≡ gpt.Memory)
no_fault_of_gpt sectors image (Mbr table) fault is why = absurd (is.0 why.left)
no_fault_of_gpt sectors image (Gpt table) fault is why = no_gpt_fault sectors image table fault is.1 why.has

no_overlap : (sectors : ℕ) (image : List ℕ) (guest : GuestView) (a b : ℕ) → IsGuest sectors image guest → HasOverlap sectors image a b → ⊥
no_overlap sectors image guest a b is why =
    let same : why.table ≡ guest.table = one_table sectors image why.table guest.table why.is_table is.table in
    let clash : AreFirstClash (partitions_of guest.table) a b = subst (λ (t : Table). AreFirstClash (partitions_of t) a b) same why.clash in
    is.apart clash.k clash.l clash.first.order clash.first.within clash.first.clash

neither_mbr : (fault : MbrFault) (fault' : InspectFault) → ((fault ≡ mbr.Device) → ⊥) → ((fault ≡ mbr.Memory) → ⊥) → (fault ≡ mbr.Device) ⊎ (fault ≡ mbr.Memory)
    → (fault' ≡ Device) ⊎ (fault' ≡ Memory)
neither_mbr fault fault' not_device not_memory (inl is) = absurd (not_device is)
neither_mbr fault fault' not_device not_memory (inr is) = absurd (not_memory is)

neither_gpt : (fault : GptFault) (fault' : InspectFault) → ((fault ≡ gpt.Device) → ⊥) → ((fault ≡ gpt.Memory) → ⊥) → (fault ≡ gpt.Device) ⊎ (fault ≡ gpt.Memory)
    → (fault' ≡ Device) ⊎ (fault' ≡ Memory)
neither_gpt fault fault' not_device not_memory (inl is) = absurd (not_device is)
neither_gpt fault fault' not_device not_memory (inr is) = absurd (not_memory is)

-- a guest leaves no reason against the disk
pub no_reason : (sectors : ℕ) (image : List ℕ) (guest : GuestView) (fault : InspectFault) → IsGuest sectors image guest → IsNoGuest sectors image fault
    → (fault ≡ Device) ⊎ (fault ≡ Memory)
no_reason sectors image guest (TooLarge n) is why = absurd (omega (arith, is.small, why.1))
no_reason sectors image guest NoSignature is why =
    neither_mbr mbr.NoSignature NoSignature (λ e. absurd cc) (λ e. absurd cc) (no_own_fault sectors image guest.table mbr.NoSignature is.table why)
no_reason sectors image guest (Entry number) is (inl why) =
    neither_mbr (mbr.Entry number) (Entry number) (λ e. absurd cc) (λ e. absurd cc) (no_own_fault sectors image guest.table (mbr.Entry number) is.table why)
no_reason sectors image guest (Entry number) is (inr why) =
    neither_gpt (gpt.Entry number) (Entry number) (λ e. absurd cc) (λ e. absurd cc) (no_fault_of_gpt sectors image guest.table (gpt.Entry number) is.table why)
no_reason sectors image guest (Chain at) is why =
    neither_mbr (mbr.Chain at) (Chain at) (λ e. absurd cc) (λ e. absurd cc) (no_own_fault sectors image guest.table (mbr.Chain at) is.table why)
no_reason sectors image guest (TooMany at) is why =
    neither_mbr (mbr.TooMany at) (TooMany at) (λ e. absurd cc) (λ e. absurd cc) (no_own_fault sectors image guest.table (mbr.TooMany at) is.table why)
no_reason sectors image guest NoHeader is why =
    neither_gpt gpt.NoHeader NoHeader (λ e. absurd cc) (λ e. absurd cc) (no_fault_of_gpt sectors image guest.table gpt.NoHeader is.table why)
no_reason sectors image guest (Shape count size) is why =
    neither_gpt (gpt.Shape count size) (Shape count size) (λ e. absurd cc) (λ e. absurd cc) (no_fault_of_gpt sectors image guest.table (gpt.Shape count size) is.table why)
no_reason sectors image guest (Overlap a b) is why = absurd (no_overlap sectors image guest a b is why)
no_reason sectors image guest Device is why = inl refl
no_reason sectors image guest Memory is why = inr refl
