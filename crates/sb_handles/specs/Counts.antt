-- How many open handles of an object read, write and delete, and share reading, writing and deleting: what Windows keeps of a file in SHARE_ACCESS.
use Rattle.std.specs.Prelude.{◌≡◌, ◌≤◌, ◌<◌, ◌^◌, ℕ, ◌+◌, ◌-◌, Bool, false, ◌&&◌, ◌||◌, ◌==◌, not, Option, None, Some, nat_lt, unwrap_or, cond, if◌then◌else◌}
use Rattle.std.specs.List.{count_by}
use Rattle.sb_call.specs.Statuses.{meets}
use Rattle.sb_handles.specs.Shares.{Shares, takes_part, read_bits, write_bits, delete_bits, share_read, share_write, share_delete}
use Rattle.sb_handles.specs.declared.counts.Counts.{Counts}
use Rattle.sb_handles.specs.declared.counts.Kinds.{Kinds}
use Rattle.sb_handles.specs.declared.objects.Share.{Share}

-- a handle takes part in sharing
abbrev pub is_part : Share → Bool
is_part share = takes_part share.access.0

-- it reads, writes, deletes
abbrev pub reads : Share → Bool
reads share = meets share.access.0 read_bits

abbrev pub writes : Share → Bool
writes share = meets share.access.0 write_bits

abbrev pub deletes : Share → Bool
deletes share = meets share.access.0 delete_bits

-- it takes part, and shares reading, writing, deleting
abbrev pub shares_reading : Share → Bool
shares_reading share = is_part share && meets share.sharing.0 share_read

abbrev pub shares_writing : Share → Bool
shares_writing share = is_part share && meets share.sharing.0 share_write

abbrev pub shares_deleting : Share → Bool
shares_deleting share = is_part share && meets share.sharing.0 share_delete

-- a handle is open, and its share passes a test
abbrev pub passes : (Share → Bool) → Option Share → Bool
passes test None = false
passes test (Some share) = test share

-- among which counts a handle is by its share
abbrev pub kinds_of : Option Share → Kinds
kinds_of share = record {
  counted = passes is_part share;
  reads = passes reads share;
  writes = passes writes share;
  deletes = passes deletes share;
  shares_reading = passes shares_reading share;
  shares_writing = passes shares_writing share;
  shares_deleting = passes shares_deleting share;
}

-- one if a handle is counted
abbrev pub one_if : Bool → ℕ
one_if b = if b then 1 else 0

-- a count after the share of one handle has changed
abbrev pub recounted : ℕ → Bool → Bool → ℕ
recounted count was is = count + one_if is - one_if was

-- all counts after the share of one handle has changed
abbrev pub counts_after : Counts → Kinds → Kinds → Counts
counts_after counts was is = record {
  open_count = recounted counts.open_count was.counted is.counted;
  readers = recounted counts.readers was.reads is.reads;
  writers = recounted counts.writers was.writes is.writes;
  deleters = recounted counts.deleters was.deletes is.deletes;
  shared_read = recounted counts.shared_read was.shares_reading is.shares_reading;
  shared_write = recounted counts.shared_write was.shares_writing is.shares_writing;
  shared_delete = recounted counts.shared_delete was.shares_deleting is.shares_deleting;
}

-- no handle is counted
abbrev pub no_counts : Counts
no_counts = record { open_count = 0; readers = 0; writers = 0; deleters = 0; shared_read = 0; shared_write = 0; shared_delete = 0 }

-- how many open handles of an object have a share that passes a test
abbrev pub count_on : ℕ → (Share → Bool) → Shares → ℕ
count_on object test shares = count_by (λ row. row.0.0 == object && test row.1) shares

-- the counts of an object
abbrev pub counts_on : ℕ → Shares → Counts
counts_on object shares = record {
  open_count = count_on object is_part shares;
  readers = count_on object reads shares;
  writers = count_on object writes shares;
  deleters = count_on object deletes shares;
  shared_read = count_on object shares_reading shares;
  shared_write = count_on object shares_writing shares;
  shared_delete = count_on object shares_deleting shares;
}

-- a handle does not share what an access does
abbrev pub withholds : Counts → ℕ → Bool
withholds counts access =
    (meets access read_bits && nat_lt counts.shared_read counts.open_count)
    || (meets access write_bits && nat_lt counts.shared_write counts.open_count)
    || (meets access delete_bits && nat_lt counts.shared_delete counts.open_count)

-- a handle does what a sharing does not share
abbrev pub exceeds : Counts → ℕ → Bool
exceeds counts sharing =
    (not (meets sharing share_read) && nat_lt 0 counts.readers)
    || (not (meets sharing share_write) && nat_lt 0 counts.writers)
    || (not (meets sharing share_delete) && nat_lt 0 counts.deleters)

-- a new access with its sharing conflicts with a handle
abbrev pub excludes : Counts → ℕ → ℕ → Bool
excludes counts access sharing = takes_part access && (withholds counts access || exceeds counts sharing)

-- the counts that are kept of an object: no handle is counted before it is opened first
abbrev pub kept : Option Counts → Counts
kept counts = unwrap_or counts no_counts

-- the counts that are kept are those of the open handles
abbrev pub AreCounted : Shares → (ℕ → Option Counts) → Type 0
AreCounted shares counts = (object : ℕ) → kept (counts object) ≡ counts_on object shares

-- the counts of one object are changed, those of every other are kept
abbrev pub AreRecounted : ℕ → Kinds → Kinds → (ℕ → Option Counts) → (ℕ → Option Counts) → Type 0
AreRecounted object was is counts counts' =
    (o : ℕ) → kept (counts' o) ≡ cond (object == o) (counts_after (kept (counts object)) was is) (kept (counts o))

-- a handle of these kinds is among those counted, of which there are fewer than 2^63
abbrev pub IsAmong : ℕ → Bool → Type 0
IsAmong count was = (count < 2 ^ 63) × (one_if was ≤ count)

pub record IsChangeable (counts : Counts) (was : Kinds) : Type 0 where
  pub counted : IsAmong counts.open_count was.counted
  pub readers : IsAmong counts.readers was.reads
  pub writers : IsAmong counts.writers was.writes
  pub deleters : IsAmong counts.deleters was.deletes
  pub shared_read : IsAmong counts.shared_read was.shares_reading
  pub shared_write : IsAmong counts.shared_write was.shares_writing
  pub shared_delete : IsAmong counts.shared_delete was.shares_deleting
