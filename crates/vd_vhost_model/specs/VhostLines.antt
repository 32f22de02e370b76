-- The lines of the bus: what each says, and how its answer is written.
use Rattle.std.specs.Prelude.{ℕ, ◌++◌, List, [], ◌∷◌, codes, length, nat_le, ◌==◌, min, Option, Some, None, find, if◌then◌else◌, option_and_then, option_map}
use Rattle.std.specs.List.{join_with_byte}
use Rattle.std.specs.Str.{bytes_eq}
use Rattle.vd_model.specs.declared.memory.Region.{Region}
use Rattle.vd_model.specs.Fields.{Field, length_field, u64_field, u32_field, hex_field}
use Rattle.vd_model.specs.Forms.{Form, cut_at, no_more_words, one_field, two_fields, four_fields, each_word}
use Rattle.vd_model.specs.Replies.{address_text, reply_line}
use Rattle.vd_vhost_model.specs.declared.word.TheConstants.{ALL_VHOST_WORDS}
use Rattle.vd_vhost_model.specs.declared.word.VhostWord.{VhostWord}
use Rattle.vd_vhost_model.specs.declared.word.VhostWord.TheVariants as words
use Rattle.vd_vhost_model.specs.declared.step.VhostStep.{VhostStep}
use Rattle.vd_vhost_model.specs.declared.step.VhostStep.TheVariants.{Poke, Peek, SetMap, Load, Store, Lookup, Recv, Answer, Lost, Tick, Take}
use Rattle.vd_vhost_model.specs.declared.step.VhostAnswer.{VhostAnswer}
use Rattle.vd_vhost_model.specs.declared.step.VhostAnswer.TheVariants.{Plain, Perm}

-- the word as it is written
unfoldable pub vhost_word_text : VhostWord → List ℕ
vhost_word_text words.Poke = codes "poke"
vhost_word_text words.Peek = codes "peek"
vhost_word_text words.SetMap = codes "setmap"
vhost_word_text words.Load = codes "load"
vhost_word_text words.Store = codes "store"
vhost_word_text words.Lookup = codes "lookup"
vhost_word_text words.Recv = codes "recv"
vhost_word_text words.Answer = codes "answer"
vhost_word_text words.Lost = codes "lost"
vhost_word_text words.Tick = codes "tick"
vhost_word_text words.Take = codes "take"

-- the first word that is written so
abbrev pub vhost_word : List ℕ → Option VhostWord
vhost_word w = find (λ k. bytes_eq w (vhost_word_text k)) ALL_VHOST_WORDS

-- a region, by its fields in the order of the line; a permission above 255 can't be kept, and is refused as 255 is
abbrev pub line_region : ℕ → ℕ → ℕ → ℕ → Region
line_region start last offset perm = record { start = start; last = last; offset = offset; perm = min perm 255 }

-- START:LAST:OFFSET:PERM
abbrev pub region_field : Field Region
region_field w = four_fields u64_field u64_field u64_field u64_field line_region (cut_at 58 w)

-- at most 64 regions
unfoldable pub regions_form : Form (List Region)
regions_form ws = if nat_le (length ws) 64 then each_word region_field ws else None

abbrev pub lookup_of : ℕ → ℕ → VhostStep
lookup_of start last = Lookup (record { start = start; last = last })

-- what stands behind a first word
abbrev pub vhost_form : VhostWord → Form VhostStep
vhost_form words.Poke = two_fields u64_field hex_field Poke
vhost_form words.Peek = two_fields u64_field length_field Peek
vhost_form words.SetMap = λ ws. option_map SetMap (regions_form ws)
vhost_form words.Load = two_fields u64_field length_field Load
vhost_form words.Store = two_fields u64_field hex_field Store
vhost_form words.Lookup = two_fields u64_field u64_field lookup_of
vhost_form words.Recv = no_more_words Recv
vhost_form words.Answer = two_fields u32_field u32_field Answer
vhost_form words.Lost = no_more_words Lost
vhost_form words.Tick = one_field u64_field Tick
vhost_form words.Take = one_field u32_field Take

-- the step that the words of a line say
unfoldable pub vhost_step_form : Form VhostStep
vhost_step_form [] = None
vhost_step_form (w ∷ ws) = option_and_then (λ k. vhost_form k ws) (vhost_word w)

-- What a line says: Some of its step, or Some None where it is empty or begins with #. None for a line that isn't in the grammar.
abbrev pub vhost_reading : List ℕ → Option (Option VhostStep)
vhost_reading [] = Some None
vhost_reading (c ∷ cs) = if c == 35 then Some None else option_map Some (vhost_step_form (cut_at 32 (c ∷ cs)))

-- the reply line of an answer
abbrev pub vhost_reply_line : VhostAnswer → List ℕ
vhost_reply_line (Plain answer) = reply_line answer
vhost_reply_line (Perm at) = join_with_byte 32 (codes "perm" ∷ address_text at ∷ []) ++ 10 ∷ []
