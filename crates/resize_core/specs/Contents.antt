-- What of the source is copied, and where to: the contents of its partitions, and the boot area.
use Rattle.std.specs.Prelude.{◌≡◌, ℕ, ◌-◌, ◌==◌, ◌||◌, Bool, true, false, min, if◌then◌else◌, List, [], ◌∷◌, ◌++◌, length, map, fold, find, drop, replicate, Option, Some, None}
use Rattle.std.specs.List.{filter_map}
use Rattle.disk_base.specs.Image.{bytes_at, sector}
use Rattle.guest_view.specs.declared.guest.GuestPart.{GuestPart}
use Rattle.guest_view.specs.declared.table.Table.{Table}
use Rattle.guest_view.specs.Guests.{GuestView, kind_of}
use Rattle.layout_plan.specs.declared.part.Fate.{Fate}
use Rattle.layout_plan.specs.declared.part.Fate.TheVariants.{Kept, Resized, Ignored, Extended}
use Rattle.layout_plan.specs.declared.part.Kind.{Kind}
use Rattle.layout_plan.specs.declared.part.Placed.{Placed}
use Rattle.layout_plan.specs.Plans.{Plan}
use Rattle.layout_plan.specs.Tables.{floor_of}
use Rattle.run_copy.specs.declared.transfer.Transfer.{Transfer}
use Rattle.target_table.specs.Planned.{AreTableWrites, first_of_table, planned_table}
use Rattle.target_work.specs.Works.{Work}
use Rattle.words.specs.declared.job.ResizeJob.{ResizeJob}

-- what is placed of the source's partition of that number
abbrev pub placed_from : Plan → ℕ → Option Placed
placed_from plan number = find (λ (placed : Placed). placed.from == number) plan.parts

-- whether a partition's content is copied
abbrev pub is_copied : Fate → Bool
is_copied Kept = true
is_copied Resized = true
is_copied Ignored = false
is_copied Extended = false

-- the content of a partition: as many sectors as the shorter length has
abbrev pub content_transfer : Bool → GuestPart → Placed → Transfer
content_transfer sparse part placed = record { from = part.start; to = placed.start; count = min part.count placed.count; sparse = sparse }

abbrev pub transfer_to : Bool → GuestPart → Option Placed → Option Transfer
transfer_to sparse part None = None
transfer_to sparse part (Some placed) = if is_copied placed.fate then Some (content_transfer sparse part placed) else None

-- the contents that are copied, by number
abbrev pub content_transfers : Bool → Plan → List GuestPart → List Transfer
content_transfers sparse plan parts = filter_map (λ part. transfer_to sparse part (placed_from plan part.number)) parts

-- the most sectors before the boot area's end
abbrev pub most_boot : ℕ
most_boot = 4096

-- the least of these starts and the most sectors before the boot area's end
abbrev pub least_start : List ℕ → ℕ
least_start starts = fold (λ least start. min least start) most_boot starts

-- where the boot area ends: at the first partition of source or target, and not behind sector 4096; without partitions
-- there is none
abbrev pub boot_end : Kind → List GuestPart → Plan → ℕ
boot_end kind parts plan =
    if length parts == 0 || length plan.parts == 0 then floor_of kind
    else least_start (map (λ (part : GuestPart). part.start) parts ++ map (λ (placed : Placed). placed.start) plan.parts)

-- the boot area, from the first sector that a partition may take
abbrev pub boot_transfer : Kind → ℕ → Transfer
boot_transfer kind end = record { from = floor_of kind; to = floor_of kind; count = end - floor_of kind; sparse = false }

abbrev pub boot_transfers : Bool → Kind → ℕ → List Transfer
boot_transfers true kind end = boot_transfer kind end ∷ []
boot_transfers false kind end = []

-- all that a job copies
abbrev pub transfers_of : ResizeJob → GuestView → Plan → List Transfer
transfers_of job guest plan =
    content_transfers job.sparse plan guest.parts
    ++ boot_transfers job.boot (kind_of guest.table) (boot_end (kind_of guest.table) guest.parts plan)

-- the head of a disk: what stands in sector 0 before the slots
abbrev pub head_of : List ℕ → List ℕ
head_of image = bytes_at (sector image 0) 0 446

-- the target's head: the source's, but that the boot code may be left out
abbrev pub head_for : Bool → List ℕ → List ℕ
head_for true head = head
head_for false head = replicate 440 0 ++ drop 440 head

-- the table that the target is to have, for a guest whose disk holds this
abbrev pub table_to_have : ResizeJob → List ℕ → GuestView → Plan → Table
table_to_have job source guest plan = planned_table guest.table plan (head_for job.boot (head_of source))

-- the work of a job for a guest whose disk holds this, on a target of so many sectors
pub record IsWorkOf (job : ResizeJob) (source : List ℕ) (guest : GuestView) (plan : Plan) (sectors : ℕ) (work : Work) : Type 0 where
  pub first : work.first ≡ first_of_table (table_to_have job source guest plan) (head_for job.boot (head_of source)) sectors
  pub writes : AreTableWrites (table_to_have job source guest plan) sectors work.writes
  pub transfers : work.transfers ≡ transfers_of job guest plan
