-- The driver's lines on buffers, mappings and coherent regions: first words, what stands behind them and the name, and how a step is written.
use Rattle.std.specs.Prelude.{ℕ, ◌-◌, ◌^◌, List, [], ◌∷◌, codes, decimal, Option, find}
use Rattle.std.specs.Str.{bytes_eq}
use Rattle.hex.specs.Hex.{encode_lower}
use Rattle.vd_model.specs.Fields.{number_in, length_field, u64_field, hex_field, dir_field}
use Rattle.vd_model.specs.Forms.{Form, one_field, three_fields, four_fields}
use Rattle.vd_model.specs.Text.{dir_text}
use Rattle.vd_model.specs.declared.word.TheConstants.{ALL_DRIVER_WORDS}
use Rattle.vd_model.specs.declared.word.DriverWord.{DriverWord}
use Rattle.vd_model.specs.declared.word.DriverWord.TheVariants as words
use Rattle.vd_model.specs.declared.step.DriverStep.{DriverStep}
use Rattle.vd_model.specs.declared.step.DriverStep.TheVariants.{Buf, Zeros, Free, Poke, Peek, Map, Unmap, SyncDev, SyncCpu, Coherent, FreeCoherent, Cput, Cget}

-- the word as it is written
unfoldable pub driver_word_text : DriverWord → List ℕ
driver_word_text words.Buf = codes "buf"
driver_word_text words.Zeros = codes "zeros"
driver_word_text words.Free = codes "free"
driver_word_text words.Poke = codes "poke"
driver_word_text words.Peek = codes "peek"
driver_word_text words.Map = codes "map"
driver_word_text words.Unmap = codes "unmap"
driver_word_text words.SyncDev = codes "syncdev"
driver_word_text words.SyncCpu = codes "synccpu"
driver_word_text words.Coherent = codes "coherent"
driver_word_text words.FreeCoherent = codes "freecoherent"
driver_word_text words.Cput = codes "cput"
driver_word_text words.Cget = codes "cget"

-- the first word that is written so
abbrev pub driver_word : List ℕ → Option DriverWord
driver_word w = find (λ k. bytes_eq w (driver_word_text k)) ALL_DRIVER_WORDS

-- what stands behind the word and the device's name
abbrev pub driver_form : DriverWord → Form DriverStep
driver_form words.Buf = one_field hex_field Buf
driver_form words.Zeros = one_field (number_in 1 (2 ^ 64 - 1)) Zeros
driver_form words.Free = one_field u64_field Free
driver_form words.Poke = three_fields u64_field u64_field hex_field Poke
driver_form words.Peek = three_fields u64_field u64_field length_field Peek
driver_form words.Map = four_fields u64_field u64_field u64_field dir_field Map
driver_form words.Unmap = one_field u64_field Unmap
driver_form words.SyncDev = one_field u64_field SyncDev
driver_form words.SyncCpu = one_field u64_field SyncCpu
driver_form words.Coherent = one_field u64_field Coherent
driver_form words.FreeCoherent = one_field u64_field FreeCoherent
driver_form words.Cput = three_fields u64_field u64_field hex_field Cput
driver_form words.Cget = three_fields u64_field u64_field length_field Cget

-- the words of a step's line, without the device's name
abbrev pub driver_text : DriverStep → List (List ℕ)
driver_text (Buf bytes) = driver_word_text words.Buf ∷ encode_lower bytes ∷ []
driver_text (Zeros len) = driver_word_text words.Zeros ∷ decimal len ∷ []
driver_text (Free buffer) = driver_word_text words.Free ∷ decimal buffer ∷ []
driver_text (Poke buffer offset bytes) = driver_word_text words.Poke ∷ decimal buffer ∷ decimal offset ∷ encode_lower bytes ∷ []
driver_text (Peek buffer offset len) = driver_word_text words.Peek ∷ decimal buffer ∷ decimal offset ∷ decimal len ∷ []
driver_text (Map buffer offset len dir) = driver_word_text words.Map ∷ decimal buffer ∷ decimal offset ∷ decimal len ∷ dir_text dir ∷ []
driver_text (Unmap mapping) = driver_word_text words.Unmap ∷ decimal mapping ∷ []
driver_text (SyncDev mapping) = driver_word_text words.SyncDev ∷ decimal mapping ∷ []
driver_text (SyncCpu mapping) = driver_word_text words.SyncCpu ∷ decimal mapping ∷ []
driver_text (Coherent len) = driver_word_text words.Coherent ∷ decimal len ∷ []
driver_text (FreeCoherent region) = driver_word_text words.FreeCoherent ∷ decimal region ∷ []
driver_text (Cput region offset bytes) = driver_word_text words.Cput ∷ decimal region ∷ decimal offset ∷ encode_lower bytes ∷ []
driver_text (Cget region offset len) = driver_word_text words.Cget ∷ decimal region ∷ decimal offset ∷ decimal len ∷ []
