-- The reply line of an answer.
use Rattle.std.specs.Prelude.{ℕ, false, List, [], ◌∷◌, ◌++◌, codes, decimal, map}
use Rattle.std.specs.Fmt.{digits}
use Rattle.std.specs.List.{join_with_byte}
use Rattle.hex.specs.Hex.{encode_lower}
use Rattle.vd_num.specs.Errno.{errno_number}
use Rattle.vd_model.specs.declared.answer.Tag.{Tag}
use Rattle.vd_model.specs.declared.answer.Tag.TheVariants as tags
use Rattle.vd_model.specs.declared.answer.Item.{Item}
use Rattle.vd_model.specs.declared.answer.Item.TheVariants.{Word, Number, Address, Text}
use Rattle.vd_model.specs.declared.answer.ChainKind.{ChainKind}
use Rattle.vd_model.specs.declared.answer.ChainKind.TheVariants as kinds
use Rattle.vd_model.specs.declared.answer.Answer.{Answer}
use Rattle.vd_model.specs.declared.answer.Answer.TheVariants as answers

-- a fixed word behind ok
unfoldable pub tag_text : Tag → List ℕ
tag_text tags.Session = codes "session"
tag_text tags.Iova = codes "iova"
tag_text tags.Base = codes "base"
tag_text tags.Offset = codes "offset"
tag_text tags.Start = codes "start"
tag_text tags.Last = codes "last"
tag_text tags.Perm = codes "perm"
tag_text tags.Capability = codes "capability"
tag_text tags.Id = codes "id"
tag_text tags.Status = codes "status"
tag_text tags.VqState = codes "vqstate"
tag_text tags.Iotlb = codes "iotlb"
tag_text tags.Avail = codes "avail"
tag_text tags.Num = codes "num"
tag_text tags.Ready = codes "ready"
tag_text tags.Desc = codes "desc"
tag_text tags.Driver = codes "driver"
tag_text tags.Device = codes "device"
tag_text tags.Parts = codes "parts"
tag_text tags.Readable = codes "readable"
tag_text tags.Writable = codes "writable"
tag_text tags.Head = codes "head"
tag_text tags.Kind = codes "type"
tag_text tags.Sector = codes "sector"
tag_text tags.Len = codes "len"
tag_text tags.Irq = codes "irq"
tag_text tags.Idx = codes "idx"
tag_text tags.Kick = codes "kick"
tag_text tags.Buf = codes "buf"
tag_text tags.Map = codes "map"
tag_text tags.Dash = codes "-"

-- an address: 0x and lower-case digits without leading zeros
abbrev pub address_text : ℕ → List ℕ
address_text a = codes "0x" ++ digits 16 false a

-- a word of the reply: fixed words, decimal numbers, addresses, and two lower-case digits for each byte
abbrev pub item_text : Item → List ℕ
item_text (Word tag) = tag_text tag
item_text (Number n) = decimal n
item_text (Address a) = address_text a
item_text (Text bytes) = encode_lower bytes

-- what is wrong with a chain
unfoldable pub kind_text : ChainKind → List ℕ
kind_text kinds.Head = codes "head"
kind_text kinds.Loop = codes "loop"
kind_text kinds.Next = codes "next"
kind_text kinds.Order = codes "order"
kind_text kinds.Shape = codes "shape"
kind_text kinds.Nested = codes "nested"
kind_text kinds.Long = codes "long"

-- the first word of a reply
unfoldable pub first_word : Answer → List ℕ
first_word (answers.Done _) = codes "ok"
first_word (answers.Err _) = codes "err"
first_word (answers.Bus _) = codes "bus"
first_word (answers.Chain _) = codes "chain"
first_word (answers.Shape _ _) = codes "shape"
first_word (answers.Ahead _ _) = codes "ahead"
first_word (answers.UsedAhead _ _) = codes "used"
first_word (answers.BadId _) = codes "used"
first_word answers.Pending = codes "pending"
first_word (answers.FailedReply _) = codes "failed"
first_word (answers.FailedTimeout _ _) = codes "failed"

-- the words behind it
abbrev pub words_after : Answer → List (List ℕ)
words_after (answers.Done items) = map item_text items
words_after (answers.Err e) = decimal (errno_number e) ∷ []
words_after (answers.Bus at) = address_text at ∷ []
words_after (answers.Chain fault) = kind_text fault.kind ∷ decimal fault.table ∷ decimal fault.index ∷ []
words_after (answers.Shape readable writable) = decimal readable ∷ decimal writable ∷ []
words_after (answers.Ahead found known) = decimal found ∷ decimal known ∷ []
words_after (answers.UsedAhead used published) = codes "ahead" ∷ decimal used ∷ decimal published ∷ []
words_after (answers.BadId id) = codes "bad" ∷ decimal id ∷ []
words_after answers.Pending = []
words_after (answers.FailedReply result) = codes "reply" ∷ decimal result ∷ []
words_after (answers.FailedTimeout deadline now) = codes "timeout" ∷ decimal deadline ∷ decimal now ∷ []

-- the reply line: its words with a space between them, and a line feed
abbrev pub reply_line : Answer → List ℕ
reply_line a = join_with_byte 32 (first_word a ∷ words_after a) ++ 10 ∷ []
