use Rattle.std.proofs.Common.{◌≡◌, ℕ, ◌+◌, List, length, replicate, ap, ◌∙◌}
use Rattle.vd_num.specs.Field.{with_field}
use Rattle.vd_abi.specs.Layout.{laid_out, with_bytes}
use Rattle.vd_abi.specs.Structs.{dev_config}
use Rattle.vd_abi.specs.declared.control.DevConfig.{DevConfig}
use Rattle.vd_abi.proofs.control.DevConfig.write.Goals as goal

-- one write after another
written : (d : DevConfig) (zeros name vendor device features queues align size done : List ℕ) → zeros ≡ replicate (336 + length d.config) 0 → name ≡ with_bytes zeros 0 d.name → vendor ≡ with_field 4 name 256 d.vendor_id → device ≡ with_field 4 vendor 260 d.device_id → features ≡ with_field 8 device 264 d.features → queues ≡ with_field 4 features 272 d.vq_num → align ≡ with_field 4 queues 276 d.vq_align → size ≡ with_field 4 align 332 (length d.config) → done ≡ with_bytes size 336 d.config → done ≡ laid_out (336 + length d.config) (dev_config d)
unfolding laid_out
written d zeros name vendor device features queues align size done e1 e2 e3 e4 e5 e6 e7 e8 e9 =
    e9
    ∙ ap (λ (xs : List ℕ). with_bytes xs 336 d.config)
    (e8
    ∙ ap (λ (xs : List ℕ). with_field 4 xs 332 (length d.config))
    (e7
    ∙ ap (λ (xs : List ℕ). with_field 4 xs 276 d.vq_align)
    (e6
    ∙ ap (λ (xs : List ℕ). with_field 4 xs 272 d.vq_num)
    (e5
    ∙ ap (λ (xs : List ℕ). with_field 8 xs 264 d.features)
    (e4
    ∙ ap (λ (xs : List ℕ). with_field 4 xs 260 d.device_id)
    (e3
    ∙ ap (λ (xs : List ℕ). with_field 4 xs 256 d.vendor_id)
    (e2 ∙ ap (λ (xs : List ℕ). with_bytes xs 0 d.name) e1)))))))

pub returns : goal.returns
returns c =
    written c.args.self.now _ _ _ _ _ _ _ _ _
    (c.clear.ensures ∙ ap (λ (n : ℕ). replicate n 0) c.requires.len)
    (c.put.ensures ∙ ap (λ (name : List ℕ). with_bytes c.clear.new.into 0 name) c.as_slice.ensures)
    c.set32.ensures
    c.set32-2.ensures
    c.set64.ensures
    c.set32-3.ensures
    c.set32-4.ensures
    (c.set32-5.ensures ∙ ap (λ (n : ℕ). with_field 4 c.set32-4.new.into 332 n) c.len.ensures)
    (c.put-2.ensures ∙ ap (λ (config : List ℕ). with_bytes c.set32-5.new.into 336 config) c.as_slice-2.ensures)
