pub mod FirstKeys
