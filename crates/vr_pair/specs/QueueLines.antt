-- The lines of the queue program: what each says, what it is answered, and the replies to a text.
use Rattle.std.specs.Prelude.{ℕ, Bool, true, false, ◌==◌, nat_lt, if◌then◌else◌, List, [], ◌∷◌, ◌++◌, length, map, codes, decimal, Option, Some, None, option_map}
use Rattle.std.specs.List.{join_with_byte}
use Rattle.std.specs.Str.{bytes_eq}
use Rattle.vd_num.specs.Errno.{errno_number}
use Rattle.vd_num.specs.declared.errno.Errno.{Errno}
use Rattle.vd_num.specs.declared.errno.Errno.TheVariants.{Noent, Again, Inval, Nospc}
use Rattle.vd_model.specs.declared.parts.Part.{Part}
use Rattle.vd_model.specs.Fields.{u64_field, u32_field}
use Rattle.vd_model.specs.Forms.{Form, cut_at, form_as, no_more_words, two_fields, parts_form}
use Rattle.vd_model.specs.Reading.{lines}
use Rattle.vd_model.specs.Replies.{address_text}
use Rattle.vd_model.specs.Text.{writable_text}
use Rattle.vr_pair.specs.declared.line.QueueLine.{QueueLine}
use Rattle.vr_pair.specs.declared.line.QueueLine.TheVariants.{Add, Next, Used, Reclaim}
use Rattle.vr_pair.specs.QueueLists.{NumberedChain, FinishedChain, QueueLists, is_readable_first, bytes_in, chain_limit, empty_lists, free_count, numbered_chain, with_added, with_taken, with_used, with_reclaimed}

-- WHAT A LINE SAYS

unfoldable pub queue_form : Form QueueLine
queue_form [] = None
queue_form (w ∷ ws) =
    if bytes_eq w (codes "add") then form_as Add parts_form ws else
    if bytes_eq w (codes "next") then no_more_words Next ws else
    if bytes_eq w (codes "used") then two_fields u64_field u32_field Used ws else
    if bytes_eq w (codes "reclaim") then no_more_words Reclaim ws else
    None

-- Some None for an empty line and for one that begins with #; None for a line that isn't in the grammar
abbrev pub queue_reading : List ℕ → Option (Option QueueLine)
queue_reading [] = Some None
queue_reading (c ∷ cs) = if c == 35 then Some None else option_map Some (queue_form (cut_at 32 (c ∷ cs)))

-- REPLIES

-- words with a space between them, and a line feed
abbrev pub reply_words : List (List ℕ) → List ℕ
reply_words ws = join_with_byte 32 ws ++ 10 ∷ []

-- a part, with its address in hexadecimal
abbrev pub given_part : Part → List ℕ
given_part p = join_with_byte 58 (writable_text p.writable ∷ address_text p.at ∷ decimal p.len ∷ [])

-- what a line makes of the lists, and its reply
pub record QueueTurn : Type 0 where
  pub lists : QueueLists
  pub reply : List ℕ

abbrev pub answered : QueueLists → List (List ℕ) → QueueTurn
answered q words = record { lists = q; reply = reply_words (codes "ok" ∷ words) }

-- a refusal changes nothing
abbrev pub refused : QueueLists → Errno → QueueTurn
refused q e = record { lists = q; reply = reply_words (codes "err" ∷ decimal (errno_number e) ∷ []) }

-- TURNS

abbrev pub lists_add_turn : QueueLists → List Part → QueueTurn
lists_add_turn q parts =
    if is_readable_first parts then
    if nat_lt chain_limit (bytes_in parts) then refused q Inval else
    if nat_lt (free_count q) (length parts) then refused q Nospc else
    answered (with_added q parts) (decimal q.added ∷ [])
    else refused q Inval

abbrev pub next_turn : QueueLists → List NumberedChain → QueueTurn
next_turn q [] = refused q Again
next_turn q (chain ∷ rest) = answered (with_taken q chain rest) (decimal chain.number ∷ map given_part chain.parts)

abbrev pub used_turn : QueueLists → Option NumberedChain → ℕ → QueueTurn
used_turn q None len = refused q Noent
used_turn q (Some chain) len = answered (with_used q chain len) []

abbrev pub reclaim_turn : QueueLists → List FinishedChain → QueueTurn
reclaim_turn q [] = refused q Again
reclaim_turn q (front ∷ rest) = answered (with_reclaimed q rest) (decimal front.chain.number ∷ decimal front.len ∷ [])

abbrev pub lists_turn : QueueLists → QueueLine → QueueTurn
lists_turn q (Add parts) = lists_add_turn q parts
lists_turn q Next = next_turn q q.waiting
lists_turn q (Used number len) = used_turn q (numbered_chain number q.taken) len
lists_turn q Reclaim = reclaim_turn q q.used

-- a line that asks nothing has no reply
abbrev pub turn_of : QueueLists → Option (Option QueueLine) → QueueTurn
turn_of q (Some (Some line)) = lists_turn q line
turn_of q _ = record { lists = q; reply = [] }

-- the replies to lines, from some lists on
unfoldable pub queue_replies : QueueLists → List (List ℕ) → List ℕ
queue_replies q [] = []
queue_replies q (line ∷ rest) = (turn_of q (queue_reading line)).reply ++ queue_replies (turn_of q (queue_reading line)).lists rest

-- all that is written for a text, of a queue of this size
abbrev pub QueueOut : ℕ → List ℕ → List ℕ
QueueOut size text = queue_replies (empty_lists size) (lines text)
