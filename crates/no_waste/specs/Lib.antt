-- No waste with one dead node: document 02, (n).
pub mod NoWaste
