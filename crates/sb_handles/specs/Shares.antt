-- Which accesses to one object may be open at the same time.
use Rattle.std.specs.Prelude.{ℕ, Bool, ◌&&◌, ◌||◌, not, ◌==◌, List, Option, option_map}
use Rattle.std.specs.BTreeMap.{insert_entry, is_at}
use Rattle.std.specs.List.{filter, find}
use Rattle.std.specs.List.Sorted.{IsStrictlySortedBy}
use Rattle.std.specs.Map.{keys_of, lookup, remove_entry}
use Rattle.sb_call.specs.Statuses.{meets}
use Rattle.sb_handles.specs.declared.objects.Share.{Share}
use Rattle.sb_base.specs.Orders.{by_pair}

-- reads data or executes, by itself or by a generic right
abbrev pub read_bits : ℕ
read_bits = 0xB0000021

-- writes or appends data
abbrev pub write_bits : ℕ
write_bits = 0x50000006

-- deletes
abbrev pub delete_bits : ℕ
delete_bits = 0x10010000

abbrev pub share_read : ℕ
share_read = 1

abbrev pub share_write : ℕ
share_write = 2

abbrev pub share_delete : ℕ
share_delete = 4

-- only such accesses take part in sharing
abbrev pub takes_part : ℕ → Bool
takes_part access = meets access read_bits || meets access write_bits || meets access delete_bits

-- an access does what a sharing does not share
abbrev pub exceeds : ℕ → ℕ → Bool
exceeds access sharing =
    (meets access read_bits && not (meets sharing share_read))
    || (meets access write_bits && not (meets sharing share_write))
    || (meets access delete_bits && not (meets sharing share_delete))

-- a new access with its sharing conflicts with an open handle
abbrev pub conflicts : ℕ → ℕ → Share → Bool
conflicts access sharing share =
    takes_part access && takes_part share.access.0 && (exceeds access share.sharing.0 || exceeds share.access.0 sharing)

-- access and sharing of each open handle: by object and handle, in strictly rising order
abbrev pub Shares : Type 0
Shares = List ((ℕ × ℕ) × Share)

-- objects and handles rise strictly
abbrev pub SharesRise : Shares → Type 0
SharesRise shares = IsStrictlySortedBy by_pair (keys_of shares)

-- an open handle of this object conflicts
abbrev pub is_conflict : ℕ → ℕ → ℕ → (ℕ × ℕ) × Share → Bool
is_conflict object access sharing row = row.0.0 == object && conflicts access sharing row.1

-- the lowest handle of an object that conflicts
abbrev pub conflict_of : Shares → ℕ → ℕ → ℕ → Option ℕ
conflict_of shares object access sharing = option_map (λ row. row.0.1) (find (is_conflict object access sharing) shares)

-- with a handle open on an object
abbrev pub opened : Shares → ℕ → ℕ → Share → Shares
opened shares object handle share = insert_entry by_pair shares (object, handle) share

-- without a handle
abbrev pub left : Shares → ℕ → Shares
left shares handle = filter (λ row. not (row.0.1 == handle)) shares

-- without the share that a handle has of an object
abbrev pub left_on : Shares → ℕ → ℕ → Shares
left_on shares object handle = remove_entry (is_at (by_pair (object, handle))) shares

-- how a handle is open on an object
abbrev pub share_on : Shares → ℕ → ℕ → Option Share
share_on shares object handle = lookup (λ key. key.0 == object && key.1 == handle) shares
