-- The daemon's lines on regions, on its area and on memory: first words, what stands behind them and the name, and how a step is written.
use Rattle.std.specs.Prelude.{ℕ, List, [], ◌∷◌, codes, decimal, Option, find}
use Rattle.std.specs.Str.{bytes_eq}
use Rattle.hex.specs.Hex.{encode_lower}
use Rattle.vd_model.specs.Fields.{length_field, u64_field, hex_field}
use Rattle.vd_model.specs.Forms.{Form, one_field, two_fields, three_fields}
use Rattle.vd_model.specs.declared.word.TheConstants.{ALL_AREA_WORDS}
use Rattle.vd_model.specs.declared.word.AreaWord.{AreaWord}
use Rattle.vd_model.specs.declared.word.AreaWord.TheVariants as words
use Rattle.vd_model.specs.declared.step.AreaStep.{AreaStep}
use Rattle.vd_model.specs.declared.step.AreaStep.TheVariants.{Lookup, IovaInfo, Area, AreaPut, AreaGet, RegUmem, DeregUmem, Load, Store}

-- the word as it is written
unfoldable pub area_word_text : AreaWord → List ℕ
area_word_text words.Lookup = codes "lookup"
area_word_text words.IovaInfo = codes "iovainfo"
area_word_text words.Area = codes "area"
area_word_text words.AreaPut = codes "areaput"
area_word_text words.AreaGet = codes "areaget"
area_word_text words.RegUmem = codes "regumem"
area_word_text words.DeregUmem = codes "deregumem"
area_word_text words.Load = codes "load"
area_word_text words.Store = codes "store"

-- the first word that is written so
abbrev pub area_word : List ℕ → Option AreaWord
area_word w = find (λ k. bytes_eq w (area_word_text k)) ALL_AREA_WORDS

-- what stands behind the word and the device's name
abbrev pub area_form : AreaWord → Form AreaStep
area_form words.Lookup = two_fields u64_field u64_field Lookup
area_form words.IovaInfo = two_fields u64_field u64_field IovaInfo
area_form words.Area = one_field u64_field Area
area_form words.AreaPut = two_fields u64_field hex_field AreaPut
area_form words.AreaGet = two_fields u64_field length_field AreaGet
area_form words.RegUmem = three_fields u64_field u64_field u64_field RegUmem
area_form words.DeregUmem = two_fields u64_field u64_field DeregUmem
area_form words.Load = two_fields u64_field length_field Load
area_form words.Store = two_fields u64_field hex_field Store

-- the words of a step's line, without the device's name
abbrev pub area_text : AreaStep → List (List ℕ)
area_text (Lookup start last) = area_word_text words.Lookup ∷ decimal start ∷ decimal last ∷ []
area_text (IovaInfo start last) = area_word_text words.IovaInfo ∷ decimal start ∷ decimal last ∷ []
area_text (Area bytes) = area_word_text words.Area ∷ decimal bytes ∷ []
area_text (AreaPut offset bytes) = area_word_text words.AreaPut ∷ decimal offset ∷ encode_lower bytes ∷ []
area_text (AreaGet offset len) = area_word_text words.AreaGet ∷ decimal offset ∷ decimal len ∷ []
area_text (RegUmem uaddr iova size) = area_word_text words.RegUmem ∷ decimal uaddr ∷ decimal iova ∷ decimal size ∷ []
area_text (DeregUmem iova size) = area_word_text words.DeregUmem ∷ decimal iova ∷ decimal size ∷ []
area_text (Load addr len) = area_word_text words.Load ∷ decimal addr ∷ decimal len ∷ []
area_text (Store addr bytes) = area_word_text words.Store ∷ decimal addr ∷ encode_lower bytes ∷ []
