-- The daemon's lines on its device node, but for those on memory: first words, what stands behind them and the name, and how a step is written.
use Rattle.std.specs.Prelude.{ℕ, List, [], ◌∷◌, codes, decimal, Option, find}
use Rattle.std.specs.Str.{bytes_eq}
use Rattle.hex.specs.Hex.{encode_lower}
use Rattle.vd_model.specs.Fields.{u64_field, u32_field, u16_field, hex_field, optional_hex_field, flag_field}
use Rattle.vd_model.specs.Forms.{Form, no_more_words, one_field, two_fields, three_fields}
use Rattle.vd_model.specs.Text.{flag_text, optional_hex_text}
use Rattle.vd_model.specs.declared.word.TheConstants.{ALL_NODE_WORDS}
use Rattle.vd_model.specs.declared.word.NodeWord.{NodeWord}
use Rattle.vd_model.specs.declared.word.NodeWord.TheVariants as words
use Rattle.vd_model.specs.declared.step.NodeStep.{NodeStep}
use Rattle.vd_model.specs.declared.step.NodeStep.TheVariants.{Open, Close, Features, SetConfig, ConfigIrq, VqSetup, VqInfo, KickFd, Kicks, Irq, Recv, Answer, Read, Write, Ioctl}

-- the word as it is written
unfoldable pub node_word_text : NodeWord → List ℕ
node_word_text words.Open = codes "open"
node_word_text words.Close = codes "close"
node_word_text words.Features = codes "features"
node_word_text words.SetConfig = codes "setconfig"
node_word_text words.ConfigIrq = codes "configirq"
node_word_text words.VqSetup = codes "vqsetup"
node_word_text words.VqInfo = codes "vqinfo"
node_word_text words.KickFd = codes "kickfd"
node_word_text words.Kicks = codes "kicks"
node_word_text words.Irq = codes "irq"
node_word_text words.Recv = codes "recv"
node_word_text words.Answer = codes "answer"
node_word_text words.Read = codes "read"
node_word_text words.Write = codes "write"
node_word_text words.Ioctl = codes "ioctl"

-- the first word that is written so
abbrev pub node_word : List ℕ → Option NodeWord
node_word w = find (λ k. bytes_eq w (node_word_text k)) ALL_NODE_WORDS

-- what stands behind the word and the device's name
abbrev pub node_form : NodeWord → Form NodeStep
node_form words.Open = no_more_words Open
node_form words.Close = no_more_words Close
node_form words.Features = no_more_words Features
node_form words.SetConfig = two_fields u64_field hex_field SetConfig
node_form words.ConfigIrq = no_more_words ConfigIrq
node_form words.VqSetup = two_fields u32_field u16_field VqSetup
node_form words.VqInfo = one_field u32_field VqInfo
node_form words.KickFd = two_fields u32_field flag_field KickFd
node_form words.Kicks = one_field u32_field Kicks
node_form words.Irq = one_field u32_field Irq
node_form words.Recv = no_more_words Recv
node_form words.Answer = three_fields u32_field u32_field u16_field Answer
node_form words.Read = one_field u32_field Read
node_form words.Write = one_field hex_field Write
node_form words.Ioctl = two_fields u64_field optional_hex_field Ioctl

-- the words of a step's line, without the device's name
abbrev pub node_text : NodeStep → List (List ℕ)
node_text Open = node_word_text words.Open ∷ []
node_text Close = node_word_text words.Close ∷ []
node_text Features = node_word_text words.Features ∷ []
node_text (SetConfig offset bytes) = node_word_text words.SetConfig ∷ decimal offset ∷ encode_lower bytes ∷ []
node_text ConfigIrq = node_word_text words.ConfigIrq ∷ []
node_text (VqSetup queue max) = node_word_text words.VqSetup ∷ decimal queue ∷ decimal max ∷ []
node_text (VqInfo queue) = node_word_text words.VqInfo ∷ decimal queue ∷ []
node_text (KickFd queue flag) = node_word_text words.KickFd ∷ decimal queue ∷ flag_text flag ∷ []
node_text (Kicks queue) = node_word_text words.Kicks ∷ decimal queue ∷ []
node_text (Irq queue) = node_word_text words.Irq ∷ decimal queue ∷ []
node_text Recv = node_word_text words.Recv ∷ []
node_text (Answer id reply avail) = node_word_text words.Answer ∷ decimal id ∷ decimal reply ∷ decimal avail ∷ []
node_text (Read len) = node_word_text words.Read ∷ decimal len ∷ []
node_text (Write bytes) = node_word_text words.Write ∷ encode_lower bytes ∷ []
node_text (Ioctl number bytes) = node_word_text words.Ioctl ∷ decimal number ∷ optional_hex_text bytes ∷ []
