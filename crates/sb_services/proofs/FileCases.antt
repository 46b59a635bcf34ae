-- The definitions, tried on worked calls by computation.
use Rattle.std.specs.Prelude.{◌≡◌, ℕ, true, false, [], ◌∷◌, None, Some, codes, refl}
use Rattle.sb_call.specs.Statuses.{refusal, showing, granting, success, invalid_parameter, name_collision, path_not_found, sharing_violation, file_is_a_directory, not_a_directory}
use Rattle.sb_call.specs.declared.replies.Answer.{Answer}
use Rattle.sb_handles.specs.Effects.{Effect}
use Rattle.sb_handles.specs.Masks.{access_of, sharing_of}
use Rattle.sb_handles.specs.Tables.{no_handles, without_handle}
use Rattle.sb_services.specs.Files.{Files, no_files, started, query, rename, closed}
use Rattle.sb_services.specs.FileCreation.{create}
use Rattle.sb_services.specs.FileRequests.{create_request, open_request, options_of}
use Rattle.sb_services.specs.declared.file_requests.Disposition.{Disposition}
use Rattle.sb_services.specs.declared.file_requests.Disposition.TheVariants as disposition
use Rattle.sb_services.specs.declared.file_requests.FileRequest.{FileRequest}

-- what a call asks for
abbrev asked : ℕ → ℕ → ℕ → Disposition → ℕ → FileRequest
asked attributes access sharing disposition options =
    record { attributes = attributes; access = access_of access; sharing = sharing_of sharing; disposition = disposition; options = options_of options }

abbrev opening_request : ℕ → ℕ → ℕ → FileRequest
opening_request access sharing options = asked 0 access sharing disposition.Open options

-- one directory
abbrev opening : Files
opening = started no_files (codes "\\d") true 0

abbrev first : Effect Files
first = create opening no_handles 0 (codes "\\d\\a") (asked 0x20 2 0 disposition.Create 0x40)

made : first.answer ≡ granting success 1 (2 ∷ [])
made = refl

again : (create first.service first.handles 0 (codes "\\D\\A") (asked 0x20 2 0 disposition.Create 0x40)).answer ≡ refusal name_collision
again = refl

not_shared : (create first.service first.handles 0 (codes "\\d\\a") (asked 0x20 2 7 disposition.Overwrite 0x40)).answer ≡ refusal sharing_violation
not_shared = refl

after_close : (create (closed first.service 1) (without_handle first.handles 0 1) 0 (codes "\\d\\a") (asked 0x21 2 7 disposition.Overwrite 0x40)).answer ≡ granting success 2 (3 ∷ [])
after_close = refl

-- attributes alone take no part in sharing
only_attributes : (create first.service first.handles 0 (codes "\\d\\a") (opening_request 0x80 0 0)).answer ≡ granting success 2 (1 ∷ [])
only_attributes = refl

below_a_file : (create first.service first.handles 0 (codes "\\d\\a\\b") (asked 0 1 7 disposition.Create 0)).answer ≡ refusal path_not_found
below_a_file = refl

not_a_file : (create opening no_handles 0 (codes "\\d") (opening_request 1 7 0x40)).answer ≡ refusal file_is_a_directory
not_a_file = refl

not_directory : (create first.service first.handles 0 (codes "\\d\\a") (opening_request 1 7 1)).answer ≡ refusal not_a_directory
not_directory = refl

request_to_open : open_request (access_of 1) (sharing_of 7) 0x40 ≡ Some (opening_request 1 7 0x40)
request_to_open = refl

both_options : open_request (access_of 1) (sharing_of 7) 0x41 ≡ None
both_options = refl

replaced_directory : create_request 0 (access_of 1) (sharing_of 7) 5 1 ≡ None
replaced_directory = refl

no_disposition : create_request 0 (access_of 1) (sharing_of 7) 6 0 ≡ None
no_disposition = refl

-- three directories and a file
abbrev tree : Files
tree =
    started (started (started (started no_files (codes "\\d") true 0) (codes "\\d\\x") true 0) (codes "\\d\\x\\y") true 0) (codes "\\d\\z") false 0

into_itself : (rename tree (codes "\\d") (codes "\\d\\x\\n")).1 ≡ refusal invalid_parameter
into_itself = refl

onto_itself : (rename tree (codes "\\d") (codes "\\D")).1 ≡ refusal name_collision
onto_itself = refl

abbrev elsewhere : Files × Answer
elsewhere = rename tree (codes "\\d") (codes "\\e")

moves : elsewhere.1 ≡ refusal success
moves = refl

found_there : query elsewhere.0 (codes "\\e\\x\\y") ≡ showing (0 ∷ 1 ∷ [])
found_there = refl

old_parent_gone : query elsewhere.0 (codes "\\d\\z") ≡ refusal path_not_found
old_parent_gone = refl
